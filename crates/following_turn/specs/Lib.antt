pub mod Machine
pub mod Needed
