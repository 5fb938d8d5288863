pub mod Answer
pub mod Code
pub mod Mended
pub mod Promised
pub mod Worked
