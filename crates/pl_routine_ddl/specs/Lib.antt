pub mod Routines
pub use Rattle.pl_ddl.specs.pl_catalog
pub use Rattle.pl_ddl.specs as pl_ddl
pub use Rattle.pl_ddl.specs.pl_typing
