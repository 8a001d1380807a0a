use Rattle.std.proofs.Common.{refl}
use Rattle.pl_body_grammar.specs.Grammar.{StackedTarget}
use Rattle.pl_body_grammar.proofs.Step.{was, gives, makes, makes_none, pairs, first_none, second_none}
use Rattle.pl_body_control.proofs.statements.stacked_target.Goals as goal

pub returns-in-Err : goal.returns-in-Err
returns-in-Err c = λ s. gives StackedTarget _ _ (makes_none _ _ _ _ refl (first_none _ _ _ _ refl (was _ _ _ (c.in-Err.ensures s))))

pub returns-in-Ok-stacked_item : goal.returns-in-Ok-stacked_item
returns-in-Ok-stacked_item c = gives StackedTarget _ _ (makes _ _ _ _ _ _ _ refl (pairs _ _ _ _ _ _ _ _ refl (was _ _ _ c.in-Ok.ensures) (pairs _ _ _ _ _ _ _ _ refl (was _ _ _ c.in-Ok-becomes.ensures) (was _ _ _ c.in-Ok-stacked_item.ensures))) refl)

pub returns-in-Err-stacked_item : goal.returns-in-Err-stacked_item
returns-in-Err-stacked_item c = λ s. gives StackedTarget _ _ (makes_none _ _ _ _ refl (second_none _ _ _ _ _ _ refl (was _ _ _ c.in-Ok.ensures) (second_none _ _ _ _ _ _ refl (was _ _ _ c.in-Ok-becomes.ensures) (was _ _ _ (c.in-Err-stacked_item.ensures s)))))

pub returns-in-Err-becomes : goal.returns-in-Err-becomes
returns-in-Err-becomes c = λ s. gives StackedTarget _ _ (makes_none _ _ _ _ refl (second_none _ _ _ _ _ _ refl (was _ _ _ c.in-Ok.ensures) (first_none _ _ _ _ refl (was _ _ _ (c.in-Err-becomes.ensures s)))))
