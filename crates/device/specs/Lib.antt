pub mod Device
pub mod Operation
pub mod Sequence
pub mod Cycle
pub mod Needs
pub mod Trace
pub mod Recent
pub mod Suspended
