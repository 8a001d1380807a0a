pub mod Pairs
pub mod Fits
pub mod Step
pub mod Told
pub mod Theorem
