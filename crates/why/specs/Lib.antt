pub mod Judges
pub mod Shows
