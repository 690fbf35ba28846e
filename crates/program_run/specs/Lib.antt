pub mod Commands
pub mod Ran
pub mod Explained
pub mod Linted
pub mod Work
pub mod Sizes
