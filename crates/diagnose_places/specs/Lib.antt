pub mod Lines
pub mod Places
pub mod Unread
pub mod Standing
pub mod Walking
