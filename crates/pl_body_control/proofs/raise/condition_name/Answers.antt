use Rattle.std.proofs.Common.{refl}
use Rattle.pl_body_grammar.specs.Grammar.{ConditionName}
use Rattle.pl_body_grammar.proofs.Step.{was, gives, behind, absent, told, untold, makes, makes_none}
use Rattle.pl_body_control.proofs.raise.condition_name.Goals as goal

pub returns-in-Ok-name : goal.returns-in-Ok-name
returns-in-Ok-name c = gives ConditionName _ _ (untold _ _ _ _ _ _ _ _ refl c.sees_pair.ensures c.if-sees_pair.false (makes _ _ _ _ _ _ _ refl (was _ _ _ c.in-Ok-name.ensures) refl))

pub returns-in-Err-name : goal.returns-in-Err-name
returns-in-Err-name c = λ s. gives ConditionName _ _ (untold _ _ _ _ _ _ _ _ refl c.sees_pair.ensures c.if-sees_pair.false (makes_none _ _ _ _ refl (was _ _ _ (c.in-Err-name.ensures s))))

pub returns-then-sees_pair : goal.returns-then-sees_pair
returns-then-sees_pair c = λ s. gives ConditionName _ _ (told _ _ _ _ _ _ _ _ refl c.sees_pair.ensures c.if-sees_pair.true (absent _ _ _ _ _ refl c.eat.ensures.result c.if-eat.false))

pub returns-in-Ok : goal.returns-in-Ok
returns-in-Ok c = gives ConditionName _ _ (told _ _ _ _ _ _ _ _ refl c.sees_pair.ensures c.if-sees_pair.true (behind _ _ _ _ _ _ _ refl c.eat.ensures.result c.if-eat.true c.eat.ensures.new (makes _ _ _ _ _ _ _ refl (was _ _ _ c.in-Ok.ensures) refl)))

pub returns-in-Err : goal.returns-in-Err
returns-in-Err c = λ s. gives ConditionName _ _ (told _ _ _ _ _ _ _ _ refl c.sees_pair.ensures c.if-sees_pair.true (behind _ _ _ _ _ _ _ refl c.eat.ensures.result c.if-eat.true c.eat.ensures.new (makes_none _ _ _ _ refl (was _ _ _ (c.in-Err.ensures s)))))
