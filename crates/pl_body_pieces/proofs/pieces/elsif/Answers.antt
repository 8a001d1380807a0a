use Rattle.std.proofs.Common.{refl}
use Rattle.pl_body_grammar.specs.declared.parts.Piece.TheVariants as piece
use Rattle.pl_body_grammar.specs.Grammar as spec
use Rattle.pl_grammar.specs.Rule.{make, part}
use Rattle.pl_body_grammar.specs.Grammar.{Condition}
use Rattle.pl_body_grammar.proofs.Step.{was, reading, gives, makes, makes_none}
use Rattle.pl_body_pieces.proofs.pieces.elsif.Goals as goal

pub returns-in-Ok : goal.returns-in-Ok
returns-in-Ok c = reading (make piece.Elsif (part spec.Condition)) _ _ (makes _ _ _ _ _ _ _ refl (was _ _ _ (gives Condition _ _ (was _ _ _ c.in-Ok.ensures))) refl)

pub returns-in-Err : goal.returns-in-Err
returns-in-Err c = λ s. reading (make piece.Elsif (part spec.Condition)) _ _ (makes_none _ _ _ _ refl (was _ _ _ (gives Condition _ _ (was _ _ _ (c.in-Err.ensures s)))))
