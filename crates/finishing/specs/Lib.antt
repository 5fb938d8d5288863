pub mod Finishing
pub mod After
