pub mod Turns
pub mod Ranges
