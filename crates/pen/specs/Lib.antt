pub mod Paper
pub mod Strokes
pub mod Orderly
pub mod Finite
pub mod Worked
