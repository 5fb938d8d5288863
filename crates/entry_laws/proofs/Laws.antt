pub mod Lent
pub mod Filled
