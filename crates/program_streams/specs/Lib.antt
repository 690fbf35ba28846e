pub mod Input
pub mod Faults
pub mod Exits
pub mod Streams
pub mod MoreTold
