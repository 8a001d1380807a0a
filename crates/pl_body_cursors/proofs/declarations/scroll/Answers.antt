use Rattle.std.proofs.Common.{refl}
use Rattle.pl_body_grammar.specs.Grammar.{Scroll}
use Rattle.pl_body_grammar.proofs.Step.{was, gives, took, left, behind, absent, skipped}
use Rattle.pl_body_cursors.proofs.declarations.scroll.Goals as goal

pub returns-then-eat-2 : goal.returns-then-eat-2
returns-then-eat-2 c = gives Scroll _ _ (took _ _ _ _ _ _ _ _ refl c.eat.ensures.result c.if-eat.true c.eat.ensures.new (behind _ _ _ _ _ _ _ refl c.eat-then-eat.ensures.result c.if-eat-2.true c.eat-then-eat.ensures.new (was _ _ _ refl)))

pub returns-then-eat : goal.returns-then-eat
returns-then-eat c = λ s. gives Scroll _ _ (took _ _ _ _ _ _ _ _ refl c.eat.ensures.result c.if-eat.true c.eat.ensures.new (absent _ _ _ _ _ refl c.eat-then-eat.ensures.result c.if-eat-2.false))

pub returns : goal.returns
returns c = gives Scroll _ _ (left _ _ _ _ _ _ _ _ refl c.eat.ensures.result c.if-eat.false c.eat.ensures.new (skipped _ _ _ _ _ refl c.eat-2.ensures.result c.eat-2.ensures.new))
