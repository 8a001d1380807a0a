use Rattle.std.proofs.Common.{refl}
use Rattle.pl_body_grammar.specs.Grammar.{DeclarationPiece}
use Rattle.pl_body_grammar.proofs.Step.{was, gives, took, left, makes, makes_none, pairs, first_none, second_none}
use Rattle.pl_body_pieces.proofs.pieces.declaration_piece.Goals as goal

pub returns-then-eat : goal.returns-then-eat
returns-then-eat c = gives DeclarationPiece _ _ (took _ _ _ _ _ _ _ _ refl c.eat.ensures.result c.if-eat.true c.eat.ensures.new (was _ _ _ refl))

pub returns-in-Ok-declared : goal.returns-in-Ok-declared
returns-in-Ok-declared c = gives DeclarationPiece _ _ (left _ _ _ _ _ _ _ _ refl c.eat.ensures.result c.if-eat.false c.eat.ensures.new (makes _ _ _ _ _ _ _ refl (pairs _ _ _ _ _ _ _ _ refl (was _ _ _ c.in-Ok.ensures) (was _ _ _ c.in-Ok-declared.ensures)) refl))

pub returns-in-Err-declared : goal.returns-in-Err-declared
returns-in-Err-declared c = λ s. gives DeclarationPiece _ _ (left _ _ _ _ _ _ _ _ refl c.eat.ensures.result c.if-eat.false c.eat.ensures.new (makes_none _ _ _ _ refl (second_none _ _ _ _ _ _ refl (was _ _ _ c.in-Ok.ensures) (was _ _ _ (c.in-Err-declared.ensures s)))))

pub returns-in-Err : goal.returns-in-Err
returns-in-Err c = λ s. gives DeclarationPiece _ _ (left _ _ _ _ _ _ _ _ refl c.eat.ensures.result c.if-eat.false c.eat.ensures.new (makes_none _ _ _ _ refl (first_none _ _ _ _ refl (was _ _ _ (c.in-Err.ensures s)))))
