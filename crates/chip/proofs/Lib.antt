pub mod Determined
pub mod Rules
