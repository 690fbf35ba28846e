pub mod Table
pub mod TableMany
pub mod TableLaws
