pub mod Value
pub mod PlainValue
pub mod Joints
pub mod Told
pub mod TurnsAfter
pub mod Keys
pub mod SamePlay
pub mod Settled
