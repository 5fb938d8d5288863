pub mod Joined
pub mod Placed
pub mod Sequence
pub mod Order
pub mod FirstNo
pub mod Worked
