pub mod Answered
pub use Rattle.pl_engine.specs as pl_engine
