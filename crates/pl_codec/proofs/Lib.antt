pub mod ReadsBack
pub mod ReadSoFar
pub mod Pushed
