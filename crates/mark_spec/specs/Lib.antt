pub mod Marked
pub mod Promises
pub mod Worked
