use Rattle.std.proofs.Common.{refl}
use Rattle.pl_body_grammar.specs.Grammar as spec
use Rattle.pl_body_grammar.proofs.Step.{was, reading, so_read, behind, absent, told, untold, makes, makes_none}
use Rattle.pl_body_control.proofs.statements.returned_value.Goals as goal

pub returns-then-eat : goal.returns-then-eat
returns-then-eat c = so_read _ _ _ _ (reading spec.returned_value _ _ (told _ _ _ _ _ _ _ _ refl c.sees_pair.ensures c.if-sees_pair.true (behind _ _ _ _ _ _ _ refl c.eat.ensures.result c.if-eat.true c.eat.ensures.new (was _ _ _ refl)))) c.return_query.ensures

pub returns-then-sees_pair : goal.returns-then-sees_pair
returns-then-sees_pair c = λ s. reading spec.returned_value _ _ (told _ _ _ _ _ _ _ _ refl c.sees_pair.ensures c.if-sees_pair.true (absent _ _ _ _ _ refl c.eat.ensures.result c.if-eat.false))

pub returns-in-Ok : goal.returns-in-Ok
returns-in-Ok c = reading spec.returned_value _ _ (untold _ _ _ _ _ _ _ _ refl c.sees_pair.ensures c.if-sees_pair.false (makes _ _ _ _ _ _ _ refl (was _ _ _ c.in-Ok.ensures) refl))

pub returns-in-Err : goal.returns-in-Err
returns-in-Err c = λ s. reading spec.returned_value _ _ (untold _ _ _ _ _ _ _ _ refl c.sees_pair.ensures c.if-sees_pair.false (makes_none _ _ _ _ refl (was _ _ _ (c.in-Err.ensures s))))
