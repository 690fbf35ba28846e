use Rattle.std.proofs.Common.{ap, ◌∙◌}
use Rattle.statement.specs.Dependence.{is_among}
use Rattle.rules_relations.specs.Relations.{relation_in}
use Rattle.rules_relations.proofs.Gathered.{any_among, same_relation}
use Rattle.rules_relations.proofs.sets.RelationSet.contains.Goals as goal

pub returns : goal.returns
returns c =
    c.contains.ensures ∙ any_among _ same_relation c.self.inside.known.keys c.args.relation
    ∙ ap (λ ps. is_among (relation_in c.args.relation) ps) c.self.view_is
