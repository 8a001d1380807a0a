pub mod Entered
pub mod Keeping
mod Named
pub mod Overs
pub mod Settled
mod Telling
mod Written
pub use Rattle.pl_engine.proofs as of_pl_engine
