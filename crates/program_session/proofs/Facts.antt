-- The facts of this crate that proofs of the crates above may rest on. All other modules of proofs are its own.

-- What is taken and answered is an exchange of a session, or its last; and what was read where a session ends.
pub use Rattle.program_session.proofs.SessionLemmas.{exchanged, ended, whole_with, whole_to_end, read_too, read_all}
