mod Within
mod Acts
pub use Rattle.pl_world.proofs as of_pl_world
