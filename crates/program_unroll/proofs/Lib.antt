pub mod Facts
mod Parting
mod ThroughNot
mod WholeTexts
