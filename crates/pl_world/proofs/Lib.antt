mod Runs
pub use Rattle.pl_meaning.proofs.Lent
pub use Rattle.pl_meaning.proofs.of_pl_change
pub use Rattle.pl_meaning.proofs.of_pl_journal
pub use Rattle.pl_meaning.proofs as of_pl_meaning
