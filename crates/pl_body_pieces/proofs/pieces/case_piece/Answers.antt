use Rattle.std.proofs.Common.{refl}
use Rattle.pl_body_grammar.specs.Grammar.{CasePiece}
use Rattle.pl_body_grammar.proofs.Step.{was, gives, so_read, took, left, makes, makes_none}
use Rattle.pl_body_pieces.proofs.pieces.case_piece.Goals as goal

pub returns : goal.returns
returns c = so_read _ _ _ _ (gives CasePiece _ _ (left _ _ _ _ _ _ _ _ refl c.eat.ensures.result c.if-eat.false c.eat.ensures.new (was _ _ _ refl))) c.piece.ensures

pub returns-in-Ok : goal.returns-in-Ok
returns-in-Ok c = gives CasePiece _ _ (took _ _ _ _ _ _ _ _ refl c.eat.ensures.result c.if-eat.true c.eat.ensures.new (makes _ _ _ _ _ _ _ refl (was _ _ _ c.in-Ok.ensures) refl))

pub returns-in-Err : goal.returns-in-Err
returns-in-Err c = λ s. gives CasePiece _ _ (took _ _ _ _ _ _ _ _ refl c.eat.ensures.result c.if-eat.true c.eat.ensures.new (makes_none _ _ _ _ refl (was _ _ _ (c.in-Err.ensures s))))
