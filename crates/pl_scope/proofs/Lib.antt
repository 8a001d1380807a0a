pub mod Aggregates
pub mod Equations
pub mod Following
pub mod Gathered
pub mod InTurn
pub mod Joining
pub mod Lifted
