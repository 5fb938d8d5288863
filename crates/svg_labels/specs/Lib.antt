pub mod Words
pub mod Labels
pub mod Sizes
