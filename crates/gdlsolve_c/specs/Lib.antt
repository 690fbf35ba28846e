pub mod Calls
pub mod Telling
pub mod Explaining
pub mod Handles
