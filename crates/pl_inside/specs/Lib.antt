pub mod Agreement
pub use Rattle.pl_query.specs as pl_query
