pub mod Fields
pub mod Values
pub mod Accepted
pub mod Spelled
pub mod RoundTrip
pub mod OnlyMade
pub mod ReadBack
pub mod Determined
