-- The facts of this crate that proofs of the crates above may rest on. All other modules of proofs are its own.

-- Different keys are different trees.
pub use Rattle.ground_terms.proofs.KeyTrees.{length_trees, tree_of_number, different}
-- Lengths of texts beside the keys of ground terms.
-- The terms that atoms state are those of the definition.
pub use Rattle.ground_terms.proofs.StatedTerms.{terms_same, atom_key, only_terms, second_terms}
-- Further atoms are numbered one after the other.
pub use Rattle.ground_terms.proofs.AddingAtoms.{with_both, number_next}
-- Which base propositions hold at the start.
pub use Rattle.ground_terms.proofs.StartLemmas.{starts_same}
-- How many atoms have no effect on play.
pub use Rattle.ground_terms.proofs.DropLemmas.{dropped_same}
-- Terms cut back to the first so many.
pub use Rattle.ground_terms.proofs.Shortened.{again}
-- What stands at a place of a list, what is left behind it, and the place that a search gives.
pub use Rattle.ground_terms.proofs.AtPlaces.{at_place, inside, at_end, take_length}
-- Atoms by the numbers of terms, while terms grow.
pub use Rattle.ground_terms.proofs.AtomLemmas.{
  front_itself,
  front_trans,
  front_length,
  trees_front,
  below_more,
  below_append,
  term_front,
  terms_front,
  atoms_front,
  atoms_append,
  same_test,
  nat_eq_self,
  in_same,
  place_same,
  with_same,
  grown_itself,
  grown_more,
}
