pub mod Spread
pub mod Checked
