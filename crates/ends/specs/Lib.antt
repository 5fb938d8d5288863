pub mod Ended
pub mod Nearest
