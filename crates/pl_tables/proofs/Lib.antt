pub mod Finding
pub mod Living
pub mod Kept
pub mod Steps
pub mod Laying
pub mod Gaps
