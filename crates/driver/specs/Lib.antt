pub mod Refusals
pub mod Writes
pub mod Machine
pub mod Fits
pub mod Talk
pub mod Reads
pub mod Endings
