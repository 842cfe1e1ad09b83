pub mod Asked
pub mod Determined
