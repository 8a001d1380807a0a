use Rattle.std.proofs.Common.{refl}
use Rattle.pl_body_grammar.specs.Grammar.{Default}
use Rattle.pl_body_grammar.proofs.Step.{was, gives, took, left, makes, makes_none, pairs, first_none, second_none}
use Rattle.pl_body_cursors.proofs.declarations.default.Goals as goal

pub returns-then-eat : goal.returns-then-eat
returns-then-eat c = gives Default _ _ (took _ _ _ _ _ _ _ _ refl c.eat.ensures.result c.if-eat.true c.eat.ensures.new (was _ _ _ refl))

pub returns-in-Ok-until : goal.returns-in-Ok-until
returns-in-Ok-until c = gives Default _ _ (left _ _ _ _ _ _ _ _ refl c.eat.ensures.result c.if-eat.false c.eat.ensures.new (makes _ _ _ _ _ _ _ refl (pairs _ _ _ _ _ _ _ _ refl (was _ _ _ c.in-Ok.ensures) (was _ _ _ (c.in-Ok-until.ensures _ c.boxed_expression-value.ensures))) refl))

pub returns-in-Err-until : goal.returns-in-Err-until
returns-in-Err-until c = λ s. gives Default _ _ (left _ _ _ _ _ _ _ _ refl c.eat.ensures.result c.if-eat.false c.eat.ensures.new (makes_none _ _ _ _ refl (second_none _ _ _ _ _ _ refl (was _ _ _ c.in-Ok.ensures) (was _ _ _ (c.in-Err-until.ensures _ c.boxed_expression-value.ensures s)))))

pub returns-in-Err : goal.returns-in-Err
returns-in-Err c = λ s. gives Default _ _ (left _ _ _ _ _ _ _ _ refl c.eat.ensures.result c.if-eat.false c.eat.ensures.new (makes_none _ _ _ _ refl (first_none _ _ _ _ refl (was _ _ _ (c.in-Err.ensures s)))))
