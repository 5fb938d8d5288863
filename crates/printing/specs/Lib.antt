pub mod Printing
pub mod Example
