use Rattle.std.proofs.Common.{refl}
use Rattle.pl_body_grammar.specs.Grammar as spec
use Rattle.pl_body_grammar.proofs.Step.{was, reading, so_read, told, untold, makes, makes_none}
use Rattle.pl_body_pieces.proofs.pieces.assignment_or_other.Goals as goal

pub returns : goal.returns
returns c = so_read _ _ _ _ (reading spec.assignment_or_other _ _ (untold _ _ _ _ _ _ _ _ refl c.sees_pair.ensures c.if-sees_pair.false (was _ _ _ refl))) c.other_piece.ensures

pub returns-in-Ok : goal.returns-in-Ok
returns-in-Ok c = reading spec.assignment_or_other _ _ (told _ _ _ _ _ _ _ _ refl c.sees_pair.ensures c.if-sees_pair.true (makes _ _ _ _ _ _ _ refl (was _ _ _ c.in-Ok.ensures) refl))

pub returns-in-Err : goal.returns-in-Err
returns-in-Err c = λ s. reading spec.assignment_or_other _ _ (told _ _ _ _ _ _ _ _ refl c.sees_pair.ensures c.if-sees_pair.true (makes_none _ _ _ _ refl (was _ _ _ (c.in-Err.ensures s))))
