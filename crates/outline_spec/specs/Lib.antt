pub mod Outline
pub mod Understood
pub mod Faults
pub mod Refused
pub mod Text
pub mod Worked
