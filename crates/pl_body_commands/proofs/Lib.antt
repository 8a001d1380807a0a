pub mod Turned
pub mod Called
