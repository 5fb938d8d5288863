pub mod Bits
pub mod Edges
pub mod Paint
pub mod Puts
pub mod Sheet
pub mod Stripped
pub mod Points
pub mod Promised
