pub mod Groups
pub mod Aggregates
pub mod Tallies
pub mod Lent
