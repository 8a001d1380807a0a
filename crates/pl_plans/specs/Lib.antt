pub mod Plans
-- What trees are resolved to.
pub use Rattle.pl_names.specs as pl_names
pub use Rattle.pl_scope.specs as pl_scope
pub use Rattle.pl_targets.specs as pl_targets
pub use Rattle.pl_typing.specs as pl_typing
