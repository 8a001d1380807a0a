pub mod Faults
pub mod Engines
pub mod Handling
pub mod Changing
pub mod Texts
pub mod Answers
pub mod Asks
pub mod Runs
pub mod Recorded
pub mod Holding
pub mod RecordedLaws
-- What an engine holds, for the crates above it.
pub use Rattle.pl_undo.specs.Database
pub use Rattle.pl_world.specs.pl_change
pub use Rattle.pl_world.specs.pl_inside
pub use Rattle.pl_world.specs.pl_journal
pub use Rattle.pl_world.specs.pl_meaning
pub use Rattle.pl_world.specs.pl_scope
pub use Rattle.pl_world.specs as pl_world
