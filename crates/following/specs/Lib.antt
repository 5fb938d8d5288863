pub mod Drilled
