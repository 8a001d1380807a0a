pub mod Spells
pub mod Computed
