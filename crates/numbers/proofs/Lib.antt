pub mod Loop
pub mod JobLoop
pub mod Names
pub mod Back
pub mod Determined
