pub mod Standing
pub mod Reading
pub mod Ends
pub mod Called
pub mod Writing
pub use Rattle.pl_engine.specs as pl_engine
pub use Rattle.pl_names.specs as pl_names
