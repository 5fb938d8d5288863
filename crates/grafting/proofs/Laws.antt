pub mod Asked
pub mod Grafted
pub mod Joins
pub mod Made
