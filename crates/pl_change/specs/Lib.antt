pub mod Changes
pub mod Running
-- What the journal says of rows and definitions, which the meanings above cite with the changes.
pub use Rattle.pl_journal.specs.ByKey
pub use Rattle.pl_journal.specs.Definitions
pub use Rattle.pl_journal.specs.Operation
pub use Rattle.pl_journal.specs.Rows
pub use Rattle.pl_journal.specs.Writing
pub use Rattle.pl_journal.specs.pl_catalog
pub use Rattle.pl_inside.specs as pl_inside
pub use Rattle.pl_journal.specs as pl_journal
pub use Rattle.pl_targets.specs.pl_names
pub use Rattle.pl_product.specs as pl_product
pub use Rattle.pl_inside.specs.pl_query
pub use Rattle.pl_journal.specs.pl_reading
pub use Rattle.pl_targets.specs.pl_scope
pub use Rattle.pl_tables.specs as pl_tables
pub use Rattle.pl_targets.specs as pl_targets
pub use Rattle.pl_targets.specs.pl_typing
pub use Rattle.pl_journal.specs.pl_undo
pub use Rattle.pl_value.specs as pl_value
pub use Rattle.pl_journal.specs.pl_waiting
