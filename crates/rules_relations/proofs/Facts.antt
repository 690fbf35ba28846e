-- The facts of this crate that proofs of the crates above may rest on. All other modules of proofs are its own.

-- The item at a place of a list, and what it does to a search.
pub use Rattle.rules_relations.proofs.Looking.{item_there, item_holds, item_fails}
