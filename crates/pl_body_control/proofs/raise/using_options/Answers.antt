use Rattle.std.proofs.Common.{refl}
use Rattle.pl_body_grammar.specs.Grammar.{UsingOptions}
use Rattle.pl_body_grammar.proofs.Step.{was, gives, so_read, so_made, took, left, behind, absent}
use Rattle.pl_body_control.proofs.raise.using_options.Goals as goal

pub returns-then-eat : goal.returns-then-eat
returns-then-eat c = gives UsingOptions _ _ (took _ _ _ _ _ _ _ _ refl c.eat.ensures.result c.if-eat.true c.eat.ensures.new (was _ _ _ (so_made _ _ _ _ c.new.ensures refl)))

pub returns-then-eat-2 : goal.returns-then-eat-2
returns-then-eat-2 c = so_read _ _ _ _ (gives UsingOptions _ _ (left _ _ _ _ _ _ _ _ refl c.eat.ensures.result c.if-eat.false c.eat.ensures.new (behind _ _ _ _ _ _ _ refl c.eat-2.ensures.result c.if-eat-2.true c.eat-2.ensures.new (was _ _ _ refl)))) c.last_options.ensures

pub returns : goal.returns
returns c = λ s. gives UsingOptions _ _ (left _ _ _ _ _ _ _ _ refl c.eat.ensures.result c.if-eat.false c.eat.ensures.new (absent _ _ _ _ _ refl c.eat-2.ensures.result c.if-eat-2.false))
