pub mod Relations
pub mod Probes
pub mod Asking
