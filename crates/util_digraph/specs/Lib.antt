pub mod Graph
pub mod GraphView
pub mod Successors
pub mod SuccessorsView
pub mod Grouping
pub mod Walk
pub mod Ranks
