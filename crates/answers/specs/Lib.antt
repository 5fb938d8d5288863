pub mod Answers
pub mod Header
