pub mod Ended
pub mod Halves
