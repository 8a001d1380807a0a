pub mod Bodies
pub mod Definition
pub mod Views
pub use Rattle.pl_reading.specs as pl_reading
pub use Rattle.pl_routine_ddl.specs.pl_typing
pub use Rattle.pl_waiting.specs as pl_waiting
