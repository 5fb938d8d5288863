pub mod Passed
pub mod Whole
pub mod Final
pub mod Taking
