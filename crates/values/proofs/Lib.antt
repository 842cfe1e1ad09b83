pub mod Turns
pub mod Clears
pub mod Places
pub mod Determined
