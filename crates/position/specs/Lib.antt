pub mod NetState
pub mod LanePlans
pub mod NetLanes
pub mod NetSources
