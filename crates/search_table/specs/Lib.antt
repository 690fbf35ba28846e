pub mod Worths
pub mod Says
pub mod Rows
pub mod Tables
pub mod Sharing
pub mod Games
pub mod Words
