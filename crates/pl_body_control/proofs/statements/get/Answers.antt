use Rattle.std.proofs.Common.{refl}
use Rattle.pl_body_grammar.specs.Grammar.{Get}
use Rattle.pl_body_grammar.proofs.Step.{was, gives, so_read, took, left, behind, absent, skipped, makes, makes_none, pairs, second_none}
use Rattle.pl_body_control.proofs.statements.get.Goals as goal

pub returns-then-eat : goal.returns-then-eat
returns-then-eat c = so_read _ _ _ _ (gives Get _ _ (took _ _ _ _ _ _ _ _ refl c.eat.ensures.result c.if-eat.true c.eat.ensures.new (was _ _ _ refl))) c.stacked_diagnostics.ensures

pub returns : goal.returns
returns c = λ s. gives Get _ _ (left _ _ _ _ _ _ _ _ refl c.eat.ensures.result c.if-eat.false c.eat.ensures.new (makes_none _ _ _ _ refl (second_none _ _ _ _ _ _ refl (skipped _ _ _ _ _ refl c.eat-2.ensures.result c.eat-2.ensures.new) (absent _ _ _ _ _ refl c.eat-3.ensures.result c.if-eat-2.false))))

pub returns-in-Ok : goal.returns-in-Ok
returns-in-Ok c = gives Get _ _ (left _ _ _ _ _ _ _ _ refl c.eat.ensures.result c.if-eat.false c.eat.ensures.new (makes _ _ _ _ _ _ _ refl (pairs _ _ _ _ _ _ _ _ refl (skipped _ _ _ _ _ refl c.eat-2.ensures.result c.eat-2.ensures.new) (behind _ _ _ _ _ _ _ refl c.eat-3.ensures.result c.if-eat-2.true c.eat-3.ensures.new (was _ _ _ c.in-Ok.ensures))) refl))

pub returns-in-Err : goal.returns-in-Err
returns-in-Err c = λ s. gives Get _ _ (left _ _ _ _ _ _ _ _ refl c.eat.ensures.result c.if-eat.false c.eat.ensures.new (makes_none _ _ _ _ refl (second_none _ _ _ _ _ _ refl (skipped _ _ _ _ _ refl c.eat-2.ensures.result c.eat-2.ensures.new) (behind _ _ _ _ _ _ _ refl c.eat-3.ensures.result c.if-eat-2.true c.eat-3.ensures.new (was _ _ _ (c.in-Err.ensures s))))))
