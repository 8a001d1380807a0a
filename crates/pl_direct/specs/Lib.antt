pub mod Direct
pub mod Fitted
pub mod Known
pub mod Runs
pub mod Search
pub use Rattle.pl_scope.specs as pl_scope
