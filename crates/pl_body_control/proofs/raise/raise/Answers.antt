use Rattle.std.proofs.Common.{refl}
use Rattle.pl_body_grammar.specs.Grammar.{Raise}
use Rattle.pl_body_grammar.proofs.Step.{was, gives, so_read, took, left, told, untold, makes_none, first_none, made_behind}
use Rattle.pl_body_control.proofs.raise.raise.Goals as goal

pub returns-then-eat : goal.returns-then-eat
returns-then-eat c = gives Raise _ _ (took _ _ _ _ _ _ _ _ refl c.eat.ensures.result c.if-eat.true c.eat.ensures.new (was _ _ _ refl))

pub returns : goal.returns
returns c = so_read _ _ _ _ (gives Raise _ _ (left _ _ _ _ _ _ _ _ refl c.eat.ensures.result c.if-eat.false c.eat.ensures.new (untold _ _ _ _ _ _ _ _ refl c.sees_pair.ensures c.if-sees_pair.false (was _ _ _ refl)))) c.raised_at-2.ensures

pub returns-in-Ok : goal.returns-in-Ok
returns-in-Ok c = so_read _ _ _ _ (gives Raise _ _ (left _ _ _ _ _ _ _ _ refl c.eat.ensures.result c.if-eat.false c.eat.ensures.new (told _ _ _ _ _ _ _ _ refl c.sees_pair.ensures c.if-sees_pair.true refl))) (made_behind _ _ _ _ _ _ _ _ _ refl (was _ _ _ c.in-Ok.ensures) c.raised_at.ensures)

pub returns-in-Err : goal.returns-in-Err
returns-in-Err c = λ s. gives Raise _ _ (left _ _ _ _ _ _ _ _ refl c.eat.ensures.result c.if-eat.false c.eat.ensures.new (told _ _ _ _ _ _ _ _ refl c.sees_pair.ensures c.if-sees_pair.true (makes_none _ _ _ _ refl (first_none _ _ _ _ refl (was _ _ _ (c.in-Err.ensures s))))))
