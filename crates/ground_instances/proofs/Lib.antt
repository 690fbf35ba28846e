mod Fitting
pub mod Facts
mod RunLemmas
mod Lists
pub mod KeptFacts
