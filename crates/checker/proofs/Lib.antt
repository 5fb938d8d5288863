pub mod Laws
pub mod Widening
pub mod Judging
