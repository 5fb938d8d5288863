pub mod Reporting
pub mod Folder
