pub mod Printing
pub mod Taken
