pub mod Names
pub mod Pick
pub mod Width
pub mod Table
pub mod Span
pub mod Time
pub mod Refused
