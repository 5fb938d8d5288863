pub mod Boxes
pub mod Raised
