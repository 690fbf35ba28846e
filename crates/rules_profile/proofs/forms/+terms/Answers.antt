use Rattle.std.proofs.Common.{sym, ap, ◌∙◌, arith}
use Rattle.statement.specs.Tree.{trees_of}
use Rattle.kif.specs.View.{trees_in}
use Rattle.statement.specs.Items.{is_term}
use Rattle.rules_profile.proofs.FormTests.{tree_is_slice, tree_is_word, no_word_no_term, term_of_terms, term_of_none}
use Rattle.rules_profile.proofs.Sizes.{rest_smaller, part_smaller}
use Rattle.rules_profile.proofs.forms.+terms.Goals as goal

pub is_term_tree-are_term_trees-requires : goal.is_term_tree-are_term_trees-requires
is_term_tree-are_term_trees-requires g t c κs within =
    let h = tree_is_word _ _ _ _ _ c.in-List.is c.deref-in-List.ensures.value c.in-Some.ensures in
    let k = rest_smaller _ _ _ h in
    (omega (arith, k, c.decreases), within)

pub is_term_tree-returns-in-None : goal.is_term_tree-returns-in-None
is_term_tree-returns-in-None g t c =
    sym (ap is_term (tree_is_slice _ _ _ c.in-List.is c.deref-in-List.ensures.value) ∙ no_word_no_term _ c.in-None.ensures)

pub is_term_tree-returns-then-begins_term : goal.is_term_tree-returns-then-begins_term
is_term_tree-returns-then-begins_term g t c =
    let w = c.in-Some.word.now in
    let rest = trees_of (trees_in c.in-Some.rest.now) in
    let h = tree_is_word _ _ _ _ _ c.in-List.is c.deref-in-List.ensures.value c.in-Some.ensures in
    c.are_term_trees.ensures ∙ sym (ap is_term h ∙ term_of_terms w rest (sym c.begins_term.ensures ∙ c.if-begins_term.true))

pub is_term_tree-returns-else-begins_term : goal.is_term_tree-returns-else-begins_term
is_term_tree-returns-else-begins_term g t c =
    let w = c.in-Some.word.now in
    let rest = trees_of (trees_in c.in-Some.rest.now) in
    let h = tree_is_word _ _ _ _ _ c.in-List.is c.deref-in-List.ensures.value c.in-Some.ensures in
    c.if-begins_term.false ∙ sym (ap is_term h ∙ term_of_none w rest (sym c.begins_term.ensures ∙ c.if-begins_term.false))

pub are_term_trees-is_term_tree-requires : goal.are_term_trees-is_term_tree-requires
are_term_trees-is_term_tree-requires g t c κs within =
    let k = part_smaller _ _ _ c.loop-part-test.true c.part-item.is in
    (omega (arith, k, c.decreases), within)
