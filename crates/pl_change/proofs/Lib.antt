mod Alike
mod Assigned
mod Copying
mod LeftOut
mod Standing
mod Turns
pub use Rattle.pl_journal.proofs.TurnedDown
pub use Rattle.pl_journal.proofs as of_pl_journal
pub use Rattle.pl_journal.proofs.of_pl_reading
