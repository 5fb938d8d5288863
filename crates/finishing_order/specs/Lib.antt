pub mod Postorder
pub mod Order
