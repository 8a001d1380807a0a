pub mod Columns
pub mod Equality
pub mod Fronts
pub mod Queries
pub mod Reading
pub mod Search
pub mod Words
