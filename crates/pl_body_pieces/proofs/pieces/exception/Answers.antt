use Rattle.std.proofs.Common.{refl}
use Rattle.pl_body_grammar.specs.declared.parts.Piece.TheVariants as piece
use Rattle.pl_body_grammar.specs.Grammar as spec
use Rattle.pl_grammar.specs.Words.{WHEN}
use Rattle.pl_grammar.specs.Rule.{make, part, ◌before◌}
use Rattle.pl_body_grammar.proofs.Step.{was, reading, behind, absent, makes, makes_none}
use Rattle.pl_body_pieces.proofs.pieces.exception.Goals as goal

pub returns : goal.returns
returns c = λ s. reading (WHEN before make piece.Exception (part spec.Handler)) _ _ (absent _ _ _ _ _ refl c.eat.ensures.result c.if-eat.false)

pub returns-in-Ok : goal.returns-in-Ok
returns-in-Ok c = reading (WHEN before make piece.Exception (part spec.Handler)) _ _ (behind _ _ _ _ _ _ _ refl c.eat.ensures.result c.if-eat.true c.eat.ensures.new (makes _ _ _ _ _ _ _ refl (was _ _ _ c.in-Ok.ensures) refl))

pub returns-in-Err : goal.returns-in-Err
returns-in-Err c = λ s. reading (WHEN before make piece.Exception (part spec.Handler)) _ _ (behind _ _ _ _ _ _ _ refl c.eat.ensures.result c.if-eat.true c.eat.ensures.new (makes_none _ _ _ _ refl (was _ _ _ (c.in-Err.ensures s))))
