pub mod Apart
pub mod Together
