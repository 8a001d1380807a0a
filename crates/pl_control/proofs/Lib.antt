mod Bodies
mod Ending
mod Invoking
mod Named
mod Noting
pub use Rattle.pl_engine.proofs as of_pl_engine
