pub mod Fitted
pub mod Worked
