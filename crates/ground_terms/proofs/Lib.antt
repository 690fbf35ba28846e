mod KeyNumbers
mod KeyTrees
mod Lengths
mod Measures
mod Built
mod Written
mod NamedTerms
mod DecimalNames
mod KindTables
mod StatedTerms
mod AddingAtoms
mod StartLemmas
mod DropLemmas
mod Shortened
mod AtPlaces
mod NumberSets
mod AtomLemmas
pub mod Facts
