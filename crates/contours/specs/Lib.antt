pub mod Contour
pub mod Sheet
