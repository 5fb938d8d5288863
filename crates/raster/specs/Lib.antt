pub mod Boundary
pub mod Points
pub mod Strip
pub mod Worked
