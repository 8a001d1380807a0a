pub use Rattle.pl_world.specs as pl_world
