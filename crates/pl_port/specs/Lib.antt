pub mod Stores
pub mod Ports
pub mod PortLaws
pub use Rattle.pl_engine.specs as pl_engine
