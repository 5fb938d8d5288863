pub mod Chain
pub mod Text
