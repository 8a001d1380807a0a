mod Answered
pub use Rattle.pl_body_parse.proofs as of_pl_body_parse
