-- The facts of this crate that proofs of the crates above may rest on. All other modules of proofs are its own.

-- All that is listed.
pub use Rattle.ground_listing.proofs.WholeListing.{many_sizes, same_fault}
