pub mod Grids
pub mod Messages
pub mod Tags
pub mod TextForm
