pub mod Boxes
pub mod Bytes
pub mod Code
