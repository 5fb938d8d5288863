pub mod Runs
pub mod Follows
pub mod Drilled
pub mod Promised
