pub mod Drill
pub mod Moves
pub mod Beyond
pub mod Passes
pub mod Steps
