mod Counted
mod Filled
pub use Rattle.pl_asking.proofs as of_pl_asking
pub use Rattle.pl_asking.proofs.of_pl_calling
pub use Rattle.pl_asking.proofs.of_pl_engine
