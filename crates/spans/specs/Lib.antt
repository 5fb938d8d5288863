pub mod Spans
pub mod Shared
