pub mod Below
pub use Rattle.pl_world.specs.pl_journal
pub use Rattle.pl_world.specs as pl_world
