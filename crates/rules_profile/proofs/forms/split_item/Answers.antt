use Rattle.statement.specs.Tree.{trees_of}
use Rattle.kif.specs.View.{trees_in}
use Rattle.rules_profile.proofs.FormTests.{tree_is_slice, tree_is_word, no_word_alone, word_alone, alone_along, nothing_there}
use Rattle.rules_profile.proofs.forms.split_item.Goals as goal

pub returns-in_default-split_word-clause-head : goal.returns-in_default-split_word-clause-head
returns-in_default-split_word-clause-head g c =
    (alone_along _ _ (tree_is_slice _ _ _ c.in-List.is c.deref.ensures.value) (no_word_alone _ c.in_default-split_word.ensures)).0

pub returns-in_default-split_word-clause-body : goal.returns-in_default-split_word-clause-body
returns-in_default-split_word-clause-body g c =
    (alone_along _ _ (tree_is_slice _ _ _ c.in-List.is c.deref.ensures.value) (no_word_alone _ c.in_default-split_word.ensures)).1

pub returns-in_default-split_first-clause-head : goal.returns-in_default-split_first-clause-head
returns-in_default-split_first-clause-head g c =
    let h = tree_is_word _ _ _ _ _ c.in-List.is c.deref.ensures.value c.in-Some.ensures in
    (alone_along _ _ h (word_alone c.in-Some.word.now (trees_of (trees_in c.in-Some.rest.now))
    (nothing_there c.in-Some.rest.now c.in_default-split_first.ensures.cases))).0

pub returns-in_default-split_first-clause-body : goal.returns-in_default-split_first-clause-body
returns-in_default-split_first-clause-body g c =
    let h = tree_is_word _ _ _ _ _ c.in-List.is c.deref.ensures.value c.in-Some.ensures in
    (alone_along _ _ h (word_alone c.in-Some.word.now (trees_of (trees_in c.in-Some.rest.now))
    (nothing_there c.in-Some.rest.now c.in_default-split_first.ensures.cases))).1
