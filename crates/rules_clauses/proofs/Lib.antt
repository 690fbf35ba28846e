mod NumberLemmas
mod SignatureLemmas
mod AddingLemmas
mod SpreadLemmas
mod ItemLemmas
mod MarkLemmas
mod SafetyLemmas
mod CountedTerms
pub mod Facts
