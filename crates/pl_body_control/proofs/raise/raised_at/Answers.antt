use Rattle.std.proofs.Common.{refl}
use Rattle.pl_body_grammar.specs.Grammar as spec
use Rattle.pl_grammar.specs.Rule.{make, part}
use Rattle.pl_body_grammar.specs.Trees.{raise_of}
use Rattle.pl_body_grammar.proofs.Step.{was, reading, makes, makes_none}
use Rattle.pl_body_control.proofs.raise.raised_at.Goals as goal

pub returns-in-Ok : goal.returns-in-Ok
returns-in-Ok c = reading (make (λ p. raise_of c.args.level p.0 p.1) (part spec.Raised)) _ _ (makes _ _ _ _ _ _ _ refl (was _ _ _ c.in-Ok.ensures) refl)

pub returns-in-Err : goal.returns-in-Err
returns-in-Err c = λ s. reading (make (λ p. raise_of c.args.level p.0 p.1) (part spec.Raised)) _ _ (makes_none _ _ _ _ refl (was _ _ _ (c.in-Err.ensures s)))
