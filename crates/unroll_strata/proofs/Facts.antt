-- The facts of this crate that proofs of the crates above may rest on. All other modules of proofs are its own.

-- A literal of an alternative of an item stands in the item's body.
pub use Rattle.unroll_strata.proofs.Readings.{stands_in_item}
-- The rules of an item of a list are among those of the list.
pub use Rattle.unroll_strata.proofs.AddedItems.{item_rule}
-- Lists of trees that are the same by test are one.
pub use Rattle.unroll_strata.proofs.AddedItems.{one_same}
-- A tree has a reading exactly where the test says so.
pub use Rattle.unroll_strata.proofs.RangeLemmas.{has_a_reading}
