pub mod Build
pub mod Built
pub mod Chain
pub mod Linked
