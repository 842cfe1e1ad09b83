pub mod Bounds
pub mod Accepts
pub mod Determined
