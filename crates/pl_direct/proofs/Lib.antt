mod Named
mod Orders
mod Values
mod Parts
mod Steps
mod Joints
pub use Rattle.pl_scope.proofs as of_pl_scope
