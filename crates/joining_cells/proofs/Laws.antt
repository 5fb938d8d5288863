pub mod Complete
pub mod Marks
pub mod Numbers
