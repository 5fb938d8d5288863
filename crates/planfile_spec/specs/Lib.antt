pub mod Fields
pub mod Format
pub mod Read
pub mod Reading
pub mod FileSteps
