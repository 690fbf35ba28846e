pub mod Play
pub mod Searching
pub mod Windows
pub mod Settling
pub mod Ready
pub mod Kept
pub mod Histories
pub mod Replies
