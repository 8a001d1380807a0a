pub mod Acts
pub mod Aimed
pub mod Tried
pub mod Valued
mod AtOnce
pub use Rattle.pl_calling.proofs as of_pl_calling
pub use Rattle.pl_calling.proofs.of_pl_engine
pub use Rattle.pl_flow.proofs as of_pl_flow
