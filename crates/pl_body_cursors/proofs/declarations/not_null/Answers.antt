use Rattle.std.proofs.Common.{refl}
use Rattle.pl_body_grammar.specs.Grammar.{NotNull}
use Rattle.pl_body_grammar.proofs.Step.{was, gives, took, left, behind, absent}
use Rattle.pl_body_cursors.proofs.declarations.not_null.Goals as goal

pub returns : goal.returns
returns c = gives NotNull _ _ (left _ _ _ _ _ _ _ _ refl c.eat.ensures.result c.if-eat.false c.eat.ensures.new (was _ _ _ refl))

pub returns-then-eat-2 : goal.returns-then-eat-2
returns-then-eat-2 c = gives NotNull _ _ (took _ _ _ _ _ _ _ _ refl c.eat.ensures.result c.if-eat.true c.eat.ensures.new (behind _ _ _ _ _ _ _ refl c.eat-then-eat.ensures.result c.if-eat-2.true c.eat-then-eat.ensures.new (was _ _ _ refl)))

pub returns-then-eat : goal.returns-then-eat
returns-then-eat c = λ s. gives NotNull _ _ (took _ _ _ _ _ _ _ _ refl c.eat.ensures.result c.if-eat.true c.eat.ensures.new (absent _ _ _ _ _ refl c.eat-then-eat.ensures.result c.if-eat-2.false))
