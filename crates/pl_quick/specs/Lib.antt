pub mod Computing
pub mod Acts
pub mod Calling
pub mod Chosen
pub mod Old
pub mod Scratch
