pub mod Fold
pub mod Folded
pub mod Held
pub mod Join
pub mod Lists
