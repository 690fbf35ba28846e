mod ListLemmas
mod TableLemmas
mod WalkLengths
pub mod Facts
