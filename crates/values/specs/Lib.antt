pub mod Search
pub mod Total
pub mod Fit
