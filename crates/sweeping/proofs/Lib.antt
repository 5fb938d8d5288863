pub mod Laws
pub mod Passing
pub mod Filling
pub mod Deciding
