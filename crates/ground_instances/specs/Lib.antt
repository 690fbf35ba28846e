pub mod Grounds
pub mod Fits
pub mod GroundView
pub mod Codes
pub mod Lists
pub mod Props
