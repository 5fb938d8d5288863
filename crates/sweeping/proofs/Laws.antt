pub mod Exact
pub mod Kept
pub mod Needed
pub mod Ready
