pub mod Report
pub mod Pool
pub mod Promised
pub mod Worked
