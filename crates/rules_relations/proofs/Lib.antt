mod Looking
mod Gathered
pub mod Facts
