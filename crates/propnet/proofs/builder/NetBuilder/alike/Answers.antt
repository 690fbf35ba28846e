use Rattle.std.proofs.Common.{rules, ℕ, Option, IfSome, subst}
use Rattle.statement.specs.declared.node_name.Name.TheVariants.{And}
use Rattle.propnet.specs.Building.{Stands}
use Rattle.propnet.specs.Builders.{gates_made}
use Rattle.propnet.proofs.builder.NetBuilder.alike.Goals as goal

pub returns : goal.returns
returns c = record {
  other = c.in-Some.other;
  stands = subst (λ (o : Option ℕ). IfSome o (λ q. Stands (gates_made c.args.self.now) c.index-number.result.now (And q))) c.in-Some.is c.instance_of.ensures;
  there = search rules;
  body = c.share_body.ensures (search rules);
}
