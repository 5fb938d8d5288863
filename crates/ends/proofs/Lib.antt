pub mod Laws
pub mod Halves
pub mod Joining
