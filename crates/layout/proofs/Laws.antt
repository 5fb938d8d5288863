pub mod Laid
pub mod Promised
pub mod Walks
