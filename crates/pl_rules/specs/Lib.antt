pub mod Rules
pub use Rattle.pl_calc.specs as pl_calc
