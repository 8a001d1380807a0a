pub mod Batches
pub mod Store
pub mod Reading
pub mod Checkpoint
pub mod Lent
