pub mod Parts
pub mod Back
pub mod Short
pub mod Accepted
pub mod Told
pub mod Refused
pub mod Faults
