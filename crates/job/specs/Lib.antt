pub mod Loader
pub mod Fits
pub mod Run
pub mod Sent
pub mod Formulas
pub mod Bill
pub mod Loading
pub mod Socket
