pub mod Stripped
pub mod Picture
