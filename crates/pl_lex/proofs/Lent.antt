-- Proofs that other crates' proofs may cite; no definition.
pub use Rattle.pl_lex.proofs.Whole.{lexemes_nil, all_stand, unique, lexes, lexes_only}
pub use Rattle.pl_lex.proofs.Joins.{commands_are_cut}
pub use Rattle.pl_lex.proofs.SliceLexemes.{slices_alike, slices_whole}
