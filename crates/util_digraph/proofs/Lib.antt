mod GraphLemmas
mod Search
mod GroupLemmas
mod WalkLemmas
mod SuccessorLemmas
mod RankLemmas
mod Turning
pub mod Facts
