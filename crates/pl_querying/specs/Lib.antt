pub use Rattle.pl_asking.specs.pl_calling
pub use Rattle.pl_asking.specs.pl_engine
