pub mod Counted
pub mod Filled
pub mod Leaving
pub mod Replayed
pub mod Torn
pub mod Steps
