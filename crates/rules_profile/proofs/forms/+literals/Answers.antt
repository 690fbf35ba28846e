use Rattle.std.proofs.Common.{Bool, not, ◌&&◌, refl, sym, ap, ◌∙◌, arith}
use Rattle.statement.specs.Tree.{trees_of}
use Rattle.kif.specs.View.{trees_in}
use Rattle.statement.specs.Items.{is_literal, are_literals}
use Rattle.rules_profile.proofs.FormTests.{some_trees, no_trees_there, gathers, literal_of_literals, one_failed, each_passed, tree_is_slice, tree_is_word}
use Rattle.rules_profile.proofs.FormTests.{no_word_no_literal}
use Rattle.rules_profile.proofs.Sizes.{rest_smaller, part_smaller}
use Rattle.rules_profile.proofs.forms.+literals.Goals as goal

pub is_literal_tree-returns-in-None : goal.is_literal_tree-returns-in-None
is_literal_tree-returns-in-None g t c =
    sym (ap is_literal (tree_is_slice _ _ _ c.in-List.is c.deref-in-List.ensures.value) ∙ no_word_no_literal _ c.in-None.ensures)

pub is_literal_tree-are_literal_trees-requires : goal.is_literal_tree-are_literal_trees-requires
is_literal_tree-are_literal_trees-requires g t c κs within =
    let h = tree_is_word _ _ _ _ _ c.in-List.is c.deref-in-List.ensures.value c.in-Some.ensures in
    let k = rest_smaller _ _ _ h in
    (omega (arith, k, c.decreases), within)

pub is_literal_tree-returns-then-not-is_empty : goal.is_literal_tree-returns-then-not-is_empty
is_literal_tree-returns-then-not-is_empty g t c =
    let w = c.in-Some.word.now in
    let rest = trees_of (trees_in c.in-Some.rest.now) in
    let h = tree_is_word _ _ _ _ _ c.in-List.is c.deref-in-List.ensures.value c.in-Some.ensures in
    let some = some_trees c.in-Some.rest.now c.if-not-is_empty.ensures in
    c.are_literal_trees.ensures
    ∙ sym (ap is_literal h ∙ literal_of_literals w rest (gathers w c.connective_of.result c.connective_of.ensures c.in-Or.is)
    ∙ ap (λ (b : Bool). b && are_literals rest) some)

pub is_literal_tree-returns-else-not-is_empty : goal.is_literal_tree-returns-else-not-is_empty
is_literal_tree-returns-else-not-is_empty g t c =
    let w = c.in-Some.word.now in
    let rest = trees_of (trees_in c.in-Some.rest.now) in
    let h = tree_is_word _ _ _ _ _ c.in-List.is c.deref-in-List.ensures.value c.in-Some.ensures in
    let none = no_trees_there c.in-Some.rest.now c.if-not-is_empty.ensures in
    ap not c.if-not-is_empty.false
    ∙ sym (ap is_literal h ∙ literal_of_literals w rest (gathers w c.connective_of.result c.connective_of.ensures c.in-Or.is)
    ∙ ap (λ (b : Bool). b && are_literals rest) none)

pub are_literal_trees-is_literal_tree-requires : goal.are_literal_trees-is_literal_tree-requires
are_literal_trees-is_literal_tree-requires g t c κs within =
    let k = part_smaller _ _ _ c.loop-part-test.true c.part-item.is in
    (omega (arith, k, c.decreases), within)

pub are_literal_trees-returns-then-not-is_literal_tree : goal.are_literal_trees-returns-then-not-is_literal_tree
are_literal_trees-returns-then-not-is_literal_tree g t c =
    sym (c.loop-part.invariant ∙ one_failed are_literals is_literal (λ t ts. refl) _ _ _ c.loop-part-test.true c.part-item.is
    (sym c.if-not-is_literal_tree.ensures))

pub are_literal_trees-loop-part-preserved : goal.are_literal_trees-loop-part-preserved
are_literal_trees-loop-part-preserved g t c =
    c.loop-part.invariant ∙ each_passed are_literals is_literal (λ t ts. refl) _ _ _ c.loop-part-test.true c.part-item.is
    (sym c.if-not-is_literal_tree.ensures)
