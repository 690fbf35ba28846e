-- The facts of this crate that proofs of the crates above may rest on. All other modules of proofs are its own.

-- The parts of an instantiation fit together.
pub use Rattle.ground_instances.proofs.Fitting.{among_at, atoms_count, fit_together, roles_count, sum_within}
