mod Alone
mod Bodies
mod Defined
mod Mapped
mod Resolves
mod Using
pub use Rattle.pl_control.proofs.of_pl_engine
