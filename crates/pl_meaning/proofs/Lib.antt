pub mod Along
pub mod Scripts
pub mod Traces
pub mod Lent
pub use Rattle.pl_change.proofs as of_pl_change
pub use Rattle.pl_change.proofs.of_pl_journal
