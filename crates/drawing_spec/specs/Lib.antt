pub mod Words
pub mod Said
pub mod Quoted
pub mod Worked
