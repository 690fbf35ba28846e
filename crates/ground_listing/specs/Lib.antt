pub mod Filled
pub mod AllListed
pub mod Frames
pub mod Made
