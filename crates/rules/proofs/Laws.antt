pub mod Agreement
pub mod Extents
pub mod Extremes
pub mod Search
pub mod Verdict
