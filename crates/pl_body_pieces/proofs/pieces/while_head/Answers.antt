use Rattle.std.proofs.Common.{refl}
use Rattle.pl_body_grammar.specs.Grammar as spec
use Rattle.pl_body_grammar.proofs.Step.{was, reading, makes, makes_none}
use Rattle.pl_body_pieces.proofs.pieces.while_head.Goals as goal

pub returns-in-Ok : goal.returns-in-Ok
returns-in-Ok c = reading spec.while_head _ _ (makes _ _ _ _ _ _ _ refl (was _ _ _ c.in-Ok.ensures) refl)

pub returns-in-Err : goal.returns-in-Err
returns-in-Err c = λ s. reading spec.while_head _ _ (makes_none _ _ _ _ refl (was _ _ _ (c.in-Err.ensures s)))
