pub mod Games
pub mod Asking
pub mod Readings
pub mod Standing
pub mod Playing
