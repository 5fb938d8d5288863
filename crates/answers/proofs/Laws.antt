pub mod Answers
pub mod Promised
