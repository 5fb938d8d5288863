pub mod Measures
pub mod Layers
pub mod Links
pub mod Search
pub mod Worked
