use Rattle.std.proofs.Common.{refl}
use Rattle.pl_body_grammar.specs.Grammar.{Direction}
use Rattle.pl_body_grammar.proofs.Step.{was, gives, so_read, took, left}
use Rattle.pl_body_cursors.proofs.cursors.direction.Goals as goal

pub returns-then-eat : goal.returns-then-eat
returns-then-eat c = gives Direction _ _ (took _ _ _ _ _ _ _ _ refl c.eat.ensures.result c.if-eat.true c.eat.ensures.new (was _ _ _ refl))

pub returns-then-eat-2 : goal.returns-then-eat-2
returns-then-eat-2 c = gives Direction _ _ (left _ _ _ _ _ _ _ _ refl c.eat.ensures.result c.if-eat.false c.eat.ensures.new (took _ _ _ _ _ _ _ _ refl c.eat-2.ensures.result c.if-eat-2.true c.eat-2.ensures.new (was _ _ _ refl)))

pub returns : goal.returns
returns c = so_read _ _ _ _ (gives Direction _ _ (left _ _ _ _ _ _ _ _ refl c.eat.ensures.result c.if-eat.false c.eat.ensures.new (left _ _ _ _ _ _ _ _ refl c.eat-2.ensures.result c.if-eat-2.false c.eat-2.ensures.new (was _ _ _ refl)))) c.place.ensures
