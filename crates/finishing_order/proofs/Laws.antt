pub mod Postorder
pub mod Members
pub mod Siblings
pub mod Order
pub mod Seeking
pub mod Promised
