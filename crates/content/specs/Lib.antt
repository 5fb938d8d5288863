pub mod Content
pub mod Clean
pub mod Worked
