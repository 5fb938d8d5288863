pub mod Report
pub mod Pool
pub mod Worked
