pub mod Laws
pub mod Asked
pub mod Constraints
pub mod Theorems
