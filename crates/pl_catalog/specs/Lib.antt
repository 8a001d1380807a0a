pub mod Dependents
pub mod Entries
pub mod Objects
pub mod Refusals
