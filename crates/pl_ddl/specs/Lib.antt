pub mod Written
pub mod Refusals
pub mod Expressions
pub mod Naming
pub mod Definition
pub mod DefinitionLaws
pub mod Views
pub use Rattle.pl_catalog.specs as pl_catalog
pub use Rattle.pl_names.specs as pl_names
pub use Rattle.pl_assigning.specs.pl_typing
