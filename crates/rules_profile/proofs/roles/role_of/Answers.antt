use Rattle.std.proofs.Common.{ap, ◌∙◌, cond, List, []}
use Rattle.statement.specs.Tree.{Tree}
use Rattle.kif.specs.View.{tree_of}
use Rattle.statement.specs.Words.{w_role}
use Rattle.statement.specs.Clause.{relation_of, is_word}
use Rattle.statement.specs.Items.{atom_in}
use Rattle.statement.specs.Profile.{first_of}
use Rattle.rules_profile.proofs.FormTests.{tree_is_slice, tree_is_word}
use Rattle.rules_profile.proofs.RoleLists.{rule_states_none, fact_states, no_word_states_none, word_states, other_word_states, one_term, other_terms}
use Rattle.rules_profile.proofs.roles.role_of.Goals as goal

abbrev stated : Tree → List Tree
stated head = cond (is_word w_role 1 (relation_of (atom_in head))) (first_of (atom_in head).terms) []

pub returns-then-not-is_empty : goal.returns-then-not-is_empty
returns-then-not-is_empty g c = rule_states_none (tree_of c.args.e.now) c.split_item.result.1.now c.split_item.ensures.body c.if-not-is_empty.ensures

pub returns-in_default-split_word : goal.returns-in_default-split_word
returns-in_default-split_word g c =
    fact_states (tree_of c.args.e.now) (tree_of c.split_item.result.0.now) c.split_item.result.1.now c.split_item.ensures.head
    c.split_item.ensures.body c.if-not-is_empty.ensures
    ∙ ap stated (tree_is_slice _ _ _ c.in-List.is c.deref.ensures.value) ∙ no_word_states_none _ c.in_default-split_word.ensures

pub returns-then-not-is_named : goal.returns-then-not-is_named
returns-then-not-is_named g c =
    fact_states (tree_of c.args.e.now) (tree_of c.split_item.result.0.now) c.split_item.result.1.now c.split_item.ensures.head
    c.split_item.ensures.body c.if-not-is_empty.ensures
    ∙ ap stated (tree_is_word _ _ _ _ _ c.in-List.is c.deref.ensures.value c.in-Some.ensures)
    ∙ other_word_states c.in-Some.word.now c.in-Some.terms.now c.if-not-is_named.ensures

pub returns-then-terms-ne1 : goal.returns-then-terms-ne1
returns-then-terms-ne1 g c =
    fact_states (tree_of c.args.e.now) (tree_of c.split_item.result.0.now) c.split_item.result.1.now c.split_item.ensures.head
    c.split_item.ensures.body c.if-not-is_empty.ensures
    ∙ ap stated (tree_is_word _ _ _ _ _ c.in-List.is c.deref.ensures.value c.in-Some.ensures)
    ∙ word_states c.in-Some.word.now c.in-Some.terms.now c.if-not-is_named.ensures
    ∙ other_terms c.in-Some.terms.now c.if-terms-ne1.true

pub returns : goal.returns
returns g c =
    fact_states (tree_of c.args.e.now) (tree_of c.split_item.result.0.now) c.split_item.result.1.now c.split_item.ensures.head
    c.split_item.ensures.body c.if-not-is_empty.ensures
    ∙ ap stated (tree_is_word _ _ _ _ _ c.in-List.is c.deref.ensures.value c.in-Some.ensures)
    ∙ word_states c.in-Some.word.now c.in-Some.terms.now c.if-not-is_named.ensures
    ∙ one_term c.in-Some.terms.now c.index-terms-0.result c.if-terms-ne1.false c.index-terms-0.is
