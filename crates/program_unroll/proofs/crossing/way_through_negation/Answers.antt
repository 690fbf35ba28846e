use Rattle.std.proofs.Common.{List, ◌≡◌, true, map, ap, subst, ◌∙◌}
use Rattle.statement.specs.Clause.{Relation}
use Rattle.kif.specs.View.{tree_of, trees_in}
use Rattle.rules_relations.specs.Relations.{relation_in}
use Rattle.unroll_strata.specs.Numbering.{negated_relations}
use Rattle.program_unroll.specs.Crossing.{begins_among}
use Rattle.program_unroll.proofs.ThroughNot.{through_not}
use Rattle.program_unroll.proofs.crossing.way_through_negation.Goals as goal

pub returns : goal.returns
returns c =
    let way = rw c.in-Some.is at c.in_ok-steps.ensures in
    let some = ap (λ l. map relation_in l) c.deref-2.ensures.value ∙ c.in_ok-negated.ensures in
    let steps = ap (λ l. map relation_in l) c.deref.ensures.value in
    let told = c.begins_among.ensures c.if-not-begins_among.false in
    let first : begins_among (negated_relations (tree_of c.args.item.now)) (map relation_in c.in-Some.steps.items) ≡ true =
    subst (λ (l : List Relation). begins_among (negated_relations (tree_of c.args.item.now)) l ≡ true) steps
    (subst (λ (l : List Relation). begins_among l (map relation_in c.deref.result.now) ≡ true) some told) in
    through_not (trees_in c.args.items.now) (tree_of c.args.item.now) (tree_of c.args.negations.now) (relation_in c.head_of.result)
    (map relation_in c.in-Some.steps.items) c.head_of.ensures first way
