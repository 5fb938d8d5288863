pub mod Sights
pub mod Sees
