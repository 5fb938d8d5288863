pub mod Contour
pub mod Forest
pub mod Heights
pub mod Sheet
pub mod Spans
