pub mod Opens
pub mod Told
pub use Rattle.pl_engine.proofs as of_pl_engine
