pub mod Ends
pub mod Lines
pub mod Shown
pub mod Replied
-- What commands are read as, for the crates that do them.
pub use Rattle.pl_reading.specs.Computed
pub use Rattle.pl_control.specs.pl_engine
pub use Rattle.pl_world.specs as pl_world
