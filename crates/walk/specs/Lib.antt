pub mod Machine
pub mod Turns
pub mod Walked
pub mod Preorder
pub mod Opened
pub mod Falls
