-- The facts of this crate that proofs of the crates above may rest on. All other modules of proofs are its own.

-- What is read and then asked is the reply, or that is told after the search.
pub use Rattle.program_replies.proofs.ReadAndAsked.{read_and_asked, asked_so, refused_so}
pub use Rattle.program_replies.proofs.Askings.{asked_reply, asked_search, asked_deepen}
