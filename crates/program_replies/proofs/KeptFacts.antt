-- The facts of this crate that proofs of the crates above may rest on. All other modules of proofs are its own.

-- The game of the instantiation of rules that were read plays their bytes.
pub use Rattle.program_replies.proofs.Plays.{plays_read}
-- What is told of a game that was made before is the reply over its instantiation, and so to the bytes that it plays.
pub use Rattle.program_replies.proofs.Over.{game_over}
pub use Rattle.program_replies.proofs.Plays.{reply_kept}
