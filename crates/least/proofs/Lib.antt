pub mod Lists
pub mod Cell
pub mod Sector
pub mod Bound
pub mod Run
pub mod Theorem
pub mod Example
