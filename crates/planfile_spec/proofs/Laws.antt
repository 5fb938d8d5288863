pub mod Answer
pub mod Every
pub mod Examined
pub mod File
pub mod Format
pub mod Label
pub mod ReadThen
pub mod ReadThenCalls
