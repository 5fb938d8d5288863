pub mod Subslice
