pub mod Readings
pub mod Definitions
pub mod Plain
pub mod OwnTexts
