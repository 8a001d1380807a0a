pub mod Settings
pub mod Entries
pub mod Ends
pub mod Taking
pub use Rattle.pl_targets.specs as pl_targets
