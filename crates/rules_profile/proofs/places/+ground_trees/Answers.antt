use Rattle.std.proofs.Common.{sym, ap, ◌∙◌, arith}
use Rattle.statement.specs.Tree.{Trees}
use Rattle.statement.specs.Profile.{is_empty}
use Rattle.statement.specs.Safety.{variables, variables_in}
use Rattle.rules_profile.proofs.FormTests.{tree_is_slice, each_passed, one_failed}
use Rattle.rules_profile.proofs.Sizes.{list_smaller, part_smaller}
use Rattle.rules_profile.proofs.Standings.{no_variables}
use Rattle.rules_profile.proofs.places.+ground_trees.Goals as goal

pub is_without_variables-are_without_variables-requires : goal.is_without_variables-are_without_variables-requires
is_without_variables-are_without_variables-requires g t c κs within =
    let k = list_smaller _ _ (tree_is_slice _ _ _ c.in-List.is c.deref-in-List.ensures.value) in
    (omega (arith, k, c.decreases), within)

pub is_without_variables-returns-in-List : goal.is_without_variables-returns-in-List
is_without_variables-returns-in-List g t c =
    c.are_without_variables.ensures ∙ sym (ap (λ u. is_empty (variables u)) (tree_is_slice _ _ _ c.in-List.is c.deref-in-List.ensures.value))

pub are_without_variables-is_without_variables-requires : goal.are_without_variables-is_without_variables-requires
are_without_variables-is_without_variables-requires g t c κs within =
    let k = part_smaller _ _ _ c.loop-part-test.true c.part-item.is in
    (omega (arith, k, c.decreases), within)

pub are_without_variables-returns-then-not-is_without_variables : goal.are_without_variables-returns-then-not-is_without_variables
are_without_variables-returns-then-not-is_without_variables g t c =
    sym (c.loop-part.invariant
    ∙ one_failed (λ (ts : Trees). is_empty (variables_in ts)) (λ u. is_empty (variables u)) no_variables _ _ _ c.loop-part-test.true
    c.part-item.is (sym c.if-not-is_without_variables.ensures))

pub are_without_variables-loop-part-preserved : goal.are_without_variables-loop-part-preserved
are_without_variables-loop-part-preserved g t c =
    c.loop-part.invariant
    ∙ each_passed (λ (ts : Trees). is_empty (variables_in ts)) (λ u. is_empty (variables u)) no_variables _ _ _ c.loop-part-test.true
    c.part-item.is (sym c.if-not-is_without_variables.ensures)
