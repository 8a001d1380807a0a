pub mod Keeping
pub mod Reading
pub use Rattle.pl_body_parse.specs as pl_body_parse
pub use Rattle.pl_body_rules.specs as pl_body_rules
