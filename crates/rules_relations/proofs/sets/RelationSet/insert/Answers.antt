use Rattle.std.proofs.Common.{ap, ◌∙◌}
use Rattle.std.specs.Prelude.{map, ◌||◌}
use Rattle.statement.specs.Clause.{relation_eq}
use Rattle.statement.specs.Dependence.{is_among}
use Rattle.rules_relations.specs.Relations.{relation_in}
use Rattle.rules_relations.proofs.Gathered.{inserted, same_relation}
use Rattle.rules_relations.proofs.sets.RelationSet.insert.Goals as goal

pub returns : goal.returns
returns c = λ p.
    ap (λ ks. is_among p (map relation_in ks)) c.in_ok-is_new.ensures.keys
    ∙ inserted _ same_relation c.self.inside.known.keys c.args.relation p
    ∙ ap (λ ps. is_among p ps || relation_eq p (relation_in c.args.relation)) c.self.view_is
