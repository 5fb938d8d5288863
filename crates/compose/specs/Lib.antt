pub mod Steps
pub mod Prefixed
pub mod Meaning
pub mod State
pub mod Composed
