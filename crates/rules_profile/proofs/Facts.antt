-- The facts of this crate that proofs of the crates above may rest on. All other modules of proofs are its own.

-- The tests of relations and atoms are equality.
pub use Rattle.rules_profile.proofs.Equality.{relation_eq_yes, relation_eq_self, atom_eq_yes, atom_eq_self}
-- Chains of dependence, and the induction along them.
pub use Rattle.rules_profile.proofs.Walks.{IsHead, along_dependence}
-- Whole games, by computation.
unfoldable pub use Rattle.rules_profile.proofs.Games.{match_text, four_text, tictactoe_text}
-- Tests that compute, and what they say.
pub use Rattle.rules_profile.proofs.Tests.{or_cases, or_left, or_right, not_true, not_false, decide, IsAmong-append, IsAmong-append_left}
pub use Rattle.rules_profile.proofs.Tests.{IsAmong-append_right}
-- The table of dependences has exactly the pairs of `Depends`.
pub use Rattle.rules_profile.proofs.Closure.{IsAmong-once_each, table_sound, table_complete}
-- What an accepted list of items has: no cycle, safety, an order along dependence.
pub use Rattle.rules_profile.proofs.Accepted.{or_none, none_fails, rule_item, same_head, body_found, accepted_acyclic, not_not, accepted_safe, right_if}
pub use Rattle.rules_profile.proofs.Accepted.{fixed_tested, rank_by_none, rank_steady, rank_below, StandsBefore, StandInOrder, into_order_cases}
pub use Rattle.rules_profile.proofs.Accepted.{into_order_all, relations_stand, relations_complete}
-- Further facts of an accepted list of items: its heads, their terms, and the relations that are fixed.
pub use Rattle.rules_profile.proofs.WellFormed.{accepted_terms, IsOwn, accepted_heads, role_fixed, base_fixed, input_fixed}
-- The tests of form, over trees in memory.
pub use Rattle.rules_profile.proofs.FormTests.{tree_is_slice, tree_is_word, no_word_no_term, no_word_no_atom, no_word_no_literal, literal_of_not}
-- How large a tree is.
pub use Rattle.rules_profile.proofs.Sizes.{trees_size, part_smaller, rest_smaller, tree_size}
-- What the form of a tree says of its parts.
pub use Rattle.rules_profile.proofs.FormLemmas.{one_of_all, compound_word, compound_terms, one_atom_alone}
-- Facts of one variant of a result.
pub use Rattle.rules_profile.proofs.Results.{on_ok, if_ok, err_given}
-- Roles at places, and the walk over the items.
pub use Rattle.rules_profile.proofs.RoleLists.{role_stated-here}
-- The tests of a list of items say what the relations say.
pub use Rattle.rules_profile.proofs.Lawfulness.{law_said}
-- The order of relations is total, and the relations that head an alternative rise in it.
pub use Rattle.rules_profile.proofs.RelationOrder.{relation_total, tied_equal, Rising, rising_same, relations_rising, relations_are_heads}
pub use Rattle.rules_profile.proofs.RelationOrder.{heads_are_relations}
-- The laws of the list of relations, of ranks, of names and of roles.
pub use Rattle.rules_profile.proofs.ListLaws.{names_law}
-- Where no item has a bad form, each tree is an item.
pub use Rattle.rules_profile.proofs.ItemsPassed.{are_items}
-- The walk to the first item that fails a test.
pub use Rattle.rules_profile.proofs.Firsts.{IsBehind, found_here, found_later, held_at}
