pub mod Feeds
pub mod Sizes
pub mod Lines
pub mod Texts
pub mod Frames
pub mod Sessions
pub mod Desks
