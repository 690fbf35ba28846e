-- What crates above may take from this one.
pub use Rattle.program_unroll.proofs.WholeTexts.{written_over, refuses_over}
pub use Rattle.program_unroll.proofs.Parting.{written_by, refused_by, broken_run, told_run}
