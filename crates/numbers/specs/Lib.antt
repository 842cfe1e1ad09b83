pub mod Machine
pub mod Loop
pub mod Loading
pub mod JobLoop
