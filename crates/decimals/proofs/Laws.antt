pub mod Fixed
pub mod Refused
