pub mod Spans
pub mod Numbers
pub mod Lines
pub mod Turns
pub mod Drawn
