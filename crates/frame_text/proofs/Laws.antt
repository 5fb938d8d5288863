pub mod FrameText
pub mod Promised
pub mod Worked
