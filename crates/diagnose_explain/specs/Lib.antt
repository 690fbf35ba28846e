pub mod Offsets
pub mod Spots
pub mod Unbound
pub mod Ways
pub mod Counting
