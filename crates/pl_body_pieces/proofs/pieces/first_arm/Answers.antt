use Rattle.std.proofs.Common.{refl}
use Rattle.pl_body_grammar.specs.Grammar.{FirstArm}
use Rattle.pl_body_grammar.proofs.Step.{was, gives, took, left, makes, makes_none, pairs, first_none, second_none}
use Rattle.pl_body_pieces.proofs.pieces.first_arm.Goals as goal

pub returns-in-Ok : goal.returns-in-Ok
returns-in-Ok c = gives FirstArm _ _ (took _ _ _ _ _ _ _ _ refl c.eat.ensures.result c.if-eat.true c.eat.ensures.new (makes _ _ _ _ _ _ _ refl (was _ _ _ c.in-Ok.ensures) refl))

pub returns-in-Err : goal.returns-in-Err
returns-in-Err c = λ s. gives FirstArm _ _ (took _ _ _ _ _ _ _ _ refl c.eat.ensures.result c.if-eat.true c.eat.ensures.new (makes_none _ _ _ _ refl (was _ _ _ (c.in-Err.ensures s))))

pub returns-in-Ok-values : goal.returns-in-Ok-values
returns-in-Ok-values c = gives FirstArm _ _ (left _ _ _ _ _ _ _ _ refl c.eat.ensures.result c.if-eat.false c.eat.ensures.new (makes _ _ _ _ _ _ _ refl (pairs _ _ _ _ _ _ _ _ refl (was _ _ _ (c.in-Ok-until.ensures _ c.boxed_expression-operand.ensures)) (was _ _ _ c.in-Ok-values.ensures)) refl))

pub returns-in-Err-values : goal.returns-in-Err-values
returns-in-Err-values c = λ s. gives FirstArm _ _ (left _ _ _ _ _ _ _ _ refl c.eat.ensures.result c.if-eat.false c.eat.ensures.new (makes_none _ _ _ _ refl (second_none _ _ _ _ _ _ refl (was _ _ _ (c.in-Ok-until.ensures _ c.boxed_expression-operand.ensures)) (was _ _ _ (c.in-Err-values.ensures s)))))

pub returns-in-Err-until : goal.returns-in-Err-until
returns-in-Err-until c = λ s. gives FirstArm _ _ (left _ _ _ _ _ _ _ _ refl c.eat.ensures.result c.if-eat.false c.eat.ensures.new (makes_none _ _ _ _ refl (first_none _ _ _ _ refl (was _ _ _ (c.in-Err-until.ensures _ c.boxed_expression-operand.ensures s)))))
