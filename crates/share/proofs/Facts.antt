-- The facts of this crate that proofs of the crates above may rest on. All other modules of proofs are its own.

-- What a plan says of its state.
pub use Rattle.share.proofs.Plans.{plan_free, plan_turns, replies_some}
