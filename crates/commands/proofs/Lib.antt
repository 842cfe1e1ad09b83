pub mod Effects
pub mod Determined
pub mod Broken
