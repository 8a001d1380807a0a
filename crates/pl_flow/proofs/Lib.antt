pub mod Sequences
pub mod Asked
pub mod Lists
pub mod Opened
pub mod Overs
pub use Rattle.pl_engine.proofs as of_pl_engine
