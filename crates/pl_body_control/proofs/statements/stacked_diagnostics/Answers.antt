use Rattle.std.proofs.Common.{refl}
use Rattle.pl_body_grammar.specs.Grammar as spec
use Rattle.pl_body_grammar.proofs.Step.{was, reading, behind, absent, makes, makes_none}
use Rattle.pl_body_control.proofs.statements.stacked_diagnostics.Goals as goal

pub returns : goal.returns
returns c = λ s. reading spec.stacked_diagnostics _ _ (absent _ _ _ _ _ refl c.eat.ensures.result c.if-eat.false)

pub returns-in-Ok : goal.returns-in-Ok
returns-in-Ok c = reading spec.stacked_diagnostics _ _ (behind _ _ _ _ _ _ _ refl c.eat.ensures.result c.if-eat.true c.eat.ensures.new (makes _ _ _ _ _ _ _ refl (was _ _ _ c.in-Ok.ensures) refl))

pub returns-in-Err : goal.returns-in-Err
returns-in-Err c = λ s. reading spec.stacked_diagnostics _ _ (behind _ _ _ _ _ _ _ refl c.eat.ensures.result c.if-eat.true c.eat.ensures.new (makes_none _ _ _ _ refl (was _ _ _ (c.in-Err.ensures s))))
