pub mod Links
pub mod Chain
pub mod Build
