pub mod Printed
pub mod Line
pub mod Put
pub mod Examples
