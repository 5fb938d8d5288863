pub mod Bias
pub mod Range
pub mod Says
pub mod Whole
