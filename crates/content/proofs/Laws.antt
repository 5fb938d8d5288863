pub mod Clean
pub mod Asked
pub mod Fine
pub mod Promised
