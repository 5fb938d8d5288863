pub mod Written
pub mod Cleaned
