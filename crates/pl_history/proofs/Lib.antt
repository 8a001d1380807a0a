pub mod Inverses
pub mod Past
