pub mod Lines
pub mod Loop
pub mod Turns
pub mod Ends
pub mod Whole
pub mod Composed
