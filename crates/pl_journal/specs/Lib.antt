pub mod Rows
pub mod Writing
pub mod Definitions
pub mod Operation
pub mod Sound
pub mod ByKey
pub mod Whole
pub mod Written
pub mod Journal
pub mod Steps
-- The bodies of the definitions that the journal holds.
pub use Rattle.pl_define.specs.Bodies
pub use Rattle.pl_catalog.specs as pl_catalog
pub use Rattle.pl_define.specs.pl_reading
pub use Rattle.pl_rules.specs as pl_rules
pub use Rattle.pl_undo.specs as pl_undo
pub use Rattle.pl_define.specs.pl_waiting
