pub mod Words
pub mod Strokes
pub mod Sizes
