use Rattle.std.proofs.Common.{refl}
use Rattle.pl_body_grammar.specs.Grammar as spec
use Rattle.pl_body_grammar.proofs.Step.{was, reading, took, left, makes, makes_none}
use Rattle.pl_body_grammar.proofs.values.optional_into.Goals as goal

pub returns : goal.returns
returns c = reading spec.optional_into _ _ (left _ _ _ _ _ _ _ _ refl c.eat.ensures.result c.if-eat.false c.eat.ensures.new (was _ _ _ refl))

pub returns-in-Ok : goal.returns-in-Ok
returns-in-Ok c = reading spec.optional_into _ _ (took _ _ _ _ _ _ _ _ refl c.eat.ensures.result c.if-eat.true c.eat.ensures.new (makes _ _ _ _ _ _ _ refl (was _ _ _ c.in-Ok.ensures) refl))

pub returns-in-Err : goal.returns-in-Err
returns-in-Err c = λ s. reading spec.optional_into _ _ (took _ _ _ _ _ _ _ _ refl c.eat.ensures.result c.if-eat.true c.eat.ensures.new (makes_none _ _ _ _ refl (was _ _ _ (c.in-Err.ensures s))))
