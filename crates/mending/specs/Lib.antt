pub mod Mended
pub mod Mending
pub mod Worked
