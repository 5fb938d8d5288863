pub mod Written
pub mod Raised
