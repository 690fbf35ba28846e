use Rattle.std.proofs.Common.{ap, ◌∙◌}
use Rattle.std.specs.Prelude.{map, ◌||◌}
use Rattle.statement.specs.Clause.{relation_eq}
use Rattle.statement.specs.Dependence.{is_among}
use Rattle.rules_relations.specs.Relations.{relation_in}
use Rattle.unroll_strata.proofs.RelationLemmas.{inserted, same_relation}
use Rattle.unroll_strata.proofs.numbers.Numbers.add.Goals as goal

pub returns : goal.returns
returns c = λ p.
    ap (λ ks. is_among p (map relation_in ks)) c.in_ok-insert.ensures.keys
    ∙ inserted _ same_relation c.self.inside.known.keys c.args.relation p
    ∙ ap (λ ps. is_among p ps || relation_eq p (relation_in c.args.relation)) c.self.view_is
