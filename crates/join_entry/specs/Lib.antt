pub mod Hung
