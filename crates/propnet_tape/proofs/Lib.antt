pub mod GroupLemmas
pub mod Marks
pub mod Meaning
pub mod Tapes
mod Passes
mod Lanes
mod Literals
mod Folds
mod Factors
mod GateGroupLemmas
pub mod Facts
