use Rattle.std.proofs.Common.{sym, ap, ◌∙◌}
use Rattle.rules_relations.specs.Relations.{relation_in}
use Rattle.unroll_strata.specs.Numbering.{number_in}
use Rattle.unroll_strata.proofs.RelationLemmas.{same_relation, found_place, no_place}
use Rattle.unroll_strata.proofs.numbers.Numbers.number.Goals as goal

pub returns-in-Some : goal.returns-in-Some
returns-in-Some c =
    found_place _ same_relation c.self.inside.known.keys c.args.relation.now c.in-Some.place (sym c.in-Some.ensures.index)
    ∙ ap (λ ps. number_in ps (relation_in c.args.relation.now)) c.self.view_is

pub returns-in-None : goal.returns-in-None
returns-in-None c =
    c.len.ensures.len ∙ no_place _ same_relation c.self.inside.known.keys c.args.relation.now (sym c.in-None.ensures.found)
    ∙ ap (λ ps. number_in ps (relation_in c.args.relation.now)) c.self.view_is
