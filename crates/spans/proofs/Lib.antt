pub mod Laws
pub mod Folding
pub mod Laying
pub mod Sinking
pub mod Numbering
