pub mod Unrolled
pub mod Crossing
