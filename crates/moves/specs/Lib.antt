pub mod Drill
pub mod Worked
pub mod Moves
