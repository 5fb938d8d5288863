pub mod Stepping
pub mod Advancing
