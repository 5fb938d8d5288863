pub mod Columns
pub mod Counted
pub mod Deepest
pub mod Kin
pub mod Laid
pub mod Sizes
pub mod Spans
