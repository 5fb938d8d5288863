pub mod Judges
pub mod Ours
pub mod Shows
