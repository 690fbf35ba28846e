-- The facts of this crate that proofs of the crates above may rest on. All other modules of proofs are its own.

-- Lists in order: their parts, and that their members determine them.
pub use Rattle.meaning.proofs.Ordered.{
  order_other,
  among_map_out,
  among_map_in,
  order_map,
  among_filter,
  among_filter_in,
  order_filter,
  order_cases,
  place_here,
  place_later,
  place_in_front,
  place_below,
}
-- What holds by derivations of bounded length: their bound doesn't matter past the number of rules.
pub use Rattle.meaning.proofs.Derivations.{relation-under, relation-literal_under, ordinary_not_distinct, derived_heads, derived_by_a_rule, derived_once, IsRight-local}
-- Kept instances are derived by rules, and what is fixed holds everywhere alike.
pub use Rattle.meaning.proofs.KeptLaw.{kept_by_a_rule, fixed_alike}
-- Matching finds exactly the maps that make an atom a given one.
pub use Rattle.meaning.proofs.Matches.{same_some, Extends, map_of-Agrees, atom_sound}
-- The listing has exactly the kept instances.
pub use Rattle.meaning.proofs.ListedLaw.{source_under, is_atom_yes, is_atom_in_yes}
-- Possible atoms, and what the tests of the listing say of literals.
pub use Rattle.meaning.proofs.Possible.{now_is, does_is, fixed_decide, kept_always, always_kept}
-- One step of the listing: the kept instances of one relation.
pub use Rattle.meaning.proofs.Steps.{possible_plain}
-- The listing, relation by relation.
pub use Rattle.meaning.proofs.Fold.{
  with_left,
  with_right,
  fixed_place_below,
  printed_in,
  printed_out,
  always_listed,
  context_there,
  listing_exact,
  atoms_exact,
  roles_exact,
  bases_exact,
  inputs_exact,
}
-- The roles of the listing are those that the items state.
pub use Rattle.meaning.proofs.Roles.{roles_stated}
-- An accepted list of items is well formed.
pub use Rattle.meaning.proofs.Accepted.{accepted_well_formed}
-- Going through the kept instances in order finds exactly what holds.
pub use Rattle.meaning.proofs.Evaluation.{before, holding_exact, after_listed, legal_listed}
-- The first limit passed is none exactly where all limits are kept.
pub use Rattle.meaning.proofs.Within.{excess_exact}
-- The roles, base propositions and inputs of the listing, and the lists of legal moves.
pub use Rattle.meaning.proofs.Context.{fixed_once, roles_once, bases_in_order, inputs_in_order, start_listed, one_list_of, one_goal}
-- The whole listing: its heads, its numbers, and the law of kept instances over it.
pub use Rattle.meaning.proofs.Exact.{numbered_exact, heads_exact, listed_suffice, heads_append, numbered_in_order}
-- What an and gate reads is right exactly when the whole body is.
pub use Rattle.meaning.proofs.Gates.{atom_found, distinct_fixed, gate_right, gate_numbered}
-- The kind of an atom is what the atom is.
pub use Rattle.meaning.proofs.AtomKinds.{kind_sound, kind_complete}
-- Heads of kept instances are made of lawful names, and so is what holds in the empty context.
pub use Rattle.meaning.proofs.Lawful.{role_lawful, base_lawful, input_lawful, term_named}
-- Lists in printed order.
pub use Rattle.meaning.proofs.Printed.{printed_never, one_printed, turned, printed_order, terms_distinct, seconds_distinct}
-- Rows stand in the order of their numbers, and each atom has one number.
pub use Rattle.meaning.proofs.Numbered.{one_number}
-- The kept instances stand in the order of their keys, over the whole listing.
pub use Rattle.meaning.proofs.Rising.{atom_test, with_front, steps_front, ComesBefore, relations_rise, kept_in_order}
-- The atoms of fixed relations come first.
pub use Rattle.meaning.proofs.FixedFirst.{all_marked}
