-- Proofs that other crates' proofs may cite; no definition.
pub use Rattle.pl_sql_parse.proofs.OneCommand.{one_command}
