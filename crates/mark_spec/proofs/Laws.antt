pub mod Marked
pub mod Promised
pub mod Worked
