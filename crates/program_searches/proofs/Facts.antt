-- The facts of this crate that proofs of the crates above may rest on. All other modules of proofs are its own.

-- First moves that make sure of something are moves of the role.
pub use Rattle.program_searches.proofs.FirstMoves.{first_within}
-- Searches that are asked for, and the replies after them.
pub use Rattle.program_searches.proofs.Searches.{lift_search, still_search, still_reply, told_after, start_is, reply_is, told_from}
