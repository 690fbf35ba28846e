mod Products
mod Numerals
pub mod Facts
