pub mod Words
pub mod Drawing
pub mod Sizes
