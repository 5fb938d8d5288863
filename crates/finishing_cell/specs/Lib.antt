pub mod Made
pub mod Taking
