-- What crates above may take from this one.
pub use Rattle.program_streams.proofs.WholeInput.{replies_to}
pub use Rattle.program_streams.proofs.FourStatuses.{within_four}
