pub mod Started
pub mod Invoice
