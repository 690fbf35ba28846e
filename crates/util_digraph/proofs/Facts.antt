-- The facts of this crate that proofs of the crates above may rest on. All other modules of proofs are its own.

-- Each step of the walk that finds the components of a graph.
pub use Rattle.util_digraph.proofs.GroupLemmas.{one_on}
-- Arrows turned round, and the places of marks.
pub use Rattle.util_digraph.proofs.Turning.{contains_stands, stands_contains}
