pub mod Doing
pub mod Found
pub mod Telling
pub mod Kept
pub mod Turns
pub mod Serving
