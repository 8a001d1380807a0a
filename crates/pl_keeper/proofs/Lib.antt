pub mod Along
pub mod Appends
pub mod Causes
pub mod Checkpoints
pub mod Opens
pub mod Starts
