pub mod Joining
pub mod Settle
