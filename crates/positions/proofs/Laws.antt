pub mod Measured
pub mod Raised
pub mod Written
