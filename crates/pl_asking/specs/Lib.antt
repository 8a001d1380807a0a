pub mod Values
pub use Rattle.pl_calling.specs as pl_calling
pub use Rattle.pl_calling.specs.pl_engine
pub use Rattle.pl_flow.specs as pl_flow
