pub mod Noted
pub mod Called
pub use Rattle.pl_asking.specs.pl_calling
pub use Rattle.pl_engine.specs as pl_engine
