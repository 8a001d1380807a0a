pub mod Names
pub mod Routines
pub mod Sources
