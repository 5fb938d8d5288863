pub mod Fitted
pub mod Promised
pub mod Worked
