use Rattle.std.proofs.Common.{refl}
use Rattle.pl_body_grammar.specs.Grammar.{Return}
use Rattle.pl_body_grammar.proofs.Step.{was, gives, so_read, took, left, behind, absent, told, untold, makes, makes_none}
use Rattle.pl_body_control.proofs.statements.return_of.Goals as goal

pub returns-then-eat : goal.returns-then-eat
returns-then-eat c = gives Return _ _ (took _ _ _ _ _ _ _ _ refl c.eat.ensures.result c.if-eat.true c.eat.ensures.new (was _ _ _ refl))

pub returns : goal.returns
returns c = so_read _ _ _ _ (gives Return _ _ (left _ _ _ _ _ _ _ _ refl c.eat.ensures.result c.if-eat.false c.eat.ensures.new (untold _ _ _ _ _ _ _ _ refl c.sees_pair.ensures c.if-sees_pair.false (was _ _ _ refl)))) c.returned_value.ensures

pub returns-then-sees_pair : goal.returns-then-sees_pair
returns-then-sees_pair c = λ s. gives Return _ _ (left _ _ _ _ _ _ _ _ refl c.eat.ensures.result c.if-eat.false c.eat.ensures.new (told _ _ _ _ _ _ _ _ refl c.sees_pair.ensures c.if-sees_pair.true (absent _ _ _ _ _ refl c.eat-then-sees_pair.ensures.result c.if-eat-2.false)))

pub returns-in-Ok : goal.returns-in-Ok
returns-in-Ok c = gives Return _ _ (left _ _ _ _ _ _ _ _ refl c.eat.ensures.result c.if-eat.false c.eat.ensures.new (told _ _ _ _ _ _ _ _ refl c.sees_pair.ensures c.if-sees_pair.true (behind _ _ _ _ _ _ _ refl c.eat-then-sees_pair.ensures.result c.if-eat-2.true c.eat-then-sees_pair.ensures.new (makes _ _ _ _ _ _ _ refl (was _ _ _ c.in-Ok.ensures) refl))))

pub returns-in-Err : goal.returns-in-Err
returns-in-Err c = λ s. gives Return _ _ (left _ _ _ _ _ _ _ _ refl c.eat.ensures.result c.if-eat.false c.eat.ensures.new (told _ _ _ _ _ _ _ _ refl c.sees_pair.ensures c.if-sees_pair.true (behind _ _ _ _ _ _ _ refl c.eat-then-sees_pair.ensures.result c.if-eat-2.true c.eat-then-sees_pair.ensures.new (makes_none _ _ _ _ refl (was _ _ _ (c.in-Err.ensures s))))))
