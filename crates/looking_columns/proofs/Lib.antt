pub mod Making
pub mod Scattering
