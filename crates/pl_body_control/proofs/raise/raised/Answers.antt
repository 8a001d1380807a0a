use Rattle.std.proofs.Common.{refl}
use Rattle.pl_body_grammar.specs.Grammar.{Raised}
use Rattle.pl_body_grammar.proofs.Step.{was, gives, so_read, took, left, begun, other, makes, makes_none}
use Rattle.pl_body_control.proofs.raise.raised.Goals as goal

pub returns-in-Ok : goal.returns-in-Ok
returns-in-Ok c = gives Raised _ _ (took _ _ _ _ _ _ _ _ refl c.eat.ensures.result c.if-eat.true c.eat.ensures.new (makes _ _ _ _ _ _ _ refl (was _ _ _ c.in-Ok.ensures) refl))

pub returns-in-Err : goal.returns-in-Err
returns-in-Err c = λ s. gives Raised _ _ (took _ _ _ _ _ _ _ _ refl c.eat.ensures.result c.if-eat.true c.eat.ensures.new (makes_none _ _ _ _ refl (was _ _ _ (c.in-Err.ensures s))))

pub returns-then-sees : goal.returns-then-sees
returns-then-sees c = so_read _ _ _ _ (gives Raised _ _ (left _ _ _ _ _ _ _ _ refl c.eat.ensures.result c.if-eat.false c.eat.ensures.new (begun _ _ _ _ _ _ refl c.sees.ensures.begun c.if-sees.true (was _ _ _ refl)))) c.raised_text.ensures

pub returns : goal.returns
returns c = so_read _ _ _ _ (gives Raised _ _ (left _ _ _ _ _ _ _ _ refl c.eat.ensures.result c.if-eat.false c.eat.ensures.new (other _ _ _ _ _ _ refl c.sees.ensures.begun c.if-sees.false (was _ _ _ refl)))) c.raised_condition.ensures
