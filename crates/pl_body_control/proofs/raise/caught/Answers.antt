use Rattle.std.proofs.Common.{refl}
use Rattle.pl_body_grammar.specs.Grammar.{Caught}
use Rattle.pl_body_grammar.proofs.Step.{was, gives, behind, absent, told, untold, makes, makes_none}
use Rattle.pl_body_control.proofs.raise.caught.Goals as goal

pub returns-then-eat : goal.returns-then-eat
returns-then-eat c = gives Caught _ _ (told _ _ _ _ _ _ _ _ refl c.sees.ensures.seen c.if-sees.true (behind _ _ _ _ _ _ _ refl c.eat.ensures.result c.if-eat.true c.eat.ensures.new (was _ _ _ refl)))

pub returns-then-sees : goal.returns-then-sees
returns-then-sees c = λ s. gives Caught _ _ (told _ _ _ _ _ _ _ _ refl c.sees.ensures.seen c.if-sees.true (absent _ _ _ _ _ refl c.eat.ensures.result c.if-eat.false))

pub returns-in-Ok : goal.returns-in-Ok
returns-in-Ok c = gives Caught _ _ (untold _ _ _ _ _ _ _ _ refl c.sees.ensures.seen c.if-sees.false (makes _ _ _ _ _ _ _ refl (was _ _ _ c.in-Ok.ensures) refl))

pub returns-in-Err : goal.returns-in-Err
returns-in-Err c = λ s. gives Caught _ _ (untold _ _ _ _ _ _ _ _ refl c.sees.ensures.seen c.if-sees.false (makes_none _ _ _ _ refl (was _ _ _ (c.in-Err.ensures s))))
