pub mod Reading
pub mod Defining
pub mod Definition
pub mod Computed
pub use Rattle.pl_grammar.specs as pl_grammar
