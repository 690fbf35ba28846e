pub mod Naming
pub mod Kinds
pub mod Layering
pub mod Listing
pub mod Slotted
pub mod Owners
pub mod ByNumber
pub mod Carried
