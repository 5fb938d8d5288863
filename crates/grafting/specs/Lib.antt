pub mod Grafted
pub mod Joins
