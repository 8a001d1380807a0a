pub mod Crash
pub mod Steps
pub mod Looks
pub mod Gate
pub mod Header
