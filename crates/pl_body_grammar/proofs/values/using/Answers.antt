use Rattle.std.proofs.Common.{refl}
use Rattle.pl_body_grammar.specs.Grammar.{Using}
use Rattle.pl_body_grammar.proofs.Step.{was, gives, so_read, so_made, took, left}
use Rattle.pl_body_grammar.proofs.values.using.Goals as goal

pub returns : goal.returns
returns c = gives Using _ _ (left _ _ _ _ _ _ _ _ refl c.eat.ensures.result c.if-eat.false c.eat.ensures.new (was _ _ _ (so_made _ _ _ _ c.new.ensures refl)))

pub returns-then-eat : goal.returns-then-eat
returns-then-eat c = so_read _ _ _ _ (gives Using _ _ (took _ _ _ _ _ _ _ _ refl c.eat.ensures.result c.if-eat.true c.eat.ensures.new (was _ _ _ refl))) c.expressions.ensures
