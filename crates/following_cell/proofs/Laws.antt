pub mod Opening
pub mod Siblings
