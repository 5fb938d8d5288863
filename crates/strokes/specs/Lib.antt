pub mod Stroked
pub mod Raised
pub mod Worked
