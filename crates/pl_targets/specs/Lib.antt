pub mod Columns
pub mod Placing
pub mod Values
pub mod Changes
pub use Rattle.pl_names.specs as pl_names
pub use Rattle.pl_scope.specs as pl_scope
pub use Rattle.pl_assigning.specs.pl_typing
