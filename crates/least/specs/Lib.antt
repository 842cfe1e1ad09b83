pub mod Operations
pub mod LeastTime
pub mod Job
