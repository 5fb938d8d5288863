pub mod Contents
pub mod Joined
pub mod Worked
