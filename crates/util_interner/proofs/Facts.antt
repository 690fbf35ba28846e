-- The facts of this crate that proofs of the crates above may rest on. All other modules of proofs are its own.

-- No keys are in no buckets.
