pub mod Assigning
pub use Rattle.pl_typing.specs as pl_typing
