use Rattle.std.proofs.Common.{refl}
use Rattle.pl_body_grammar.specs.Grammar.{RaiseOption}
use Rattle.pl_body_grammar.proofs.Step.{was, gives, makes, makes_none, pairs, first_none, second_none}
use Rattle.pl_body_control.proofs.raise.raise_option.Goals as goal

pub returns-in-Err : goal.returns-in-Err
returns-in-Err c = λ s. gives RaiseOption _ _ (makes_none _ _ _ _ refl (first_none _ _ _ _ refl (was _ _ _ (c.in-Err.ensures s))))

pub returns-in-Ok-read_expression : goal.returns-in-Ok-read_expression
returns-in-Ok-read_expression c = gives RaiseOption _ _ (makes _ _ _ _ _ _ _ refl (pairs _ _ _ _ _ _ _ _ refl (was _ _ _ c.in-Ok.ensures) (pairs _ _ _ _ _ _ _ _ refl (was _ _ _ c.in-Ok-becomes.ensures) (was _ _ _ c.in-Ok-read_expression.ensures))) refl)

pub returns-in-Err-read_expression : goal.returns-in-Err-read_expression
returns-in-Err-read_expression c = λ s. gives RaiseOption _ _ (makes_none _ _ _ _ refl (second_none _ _ _ _ _ _ refl (was _ _ _ c.in-Ok.ensures) (second_none _ _ _ _ _ _ refl (was _ _ _ c.in-Ok-becomes.ensures) (was _ _ _ (c.in-Err-read_expression.ensures s)))))

pub returns-in-Err-becomes : goal.returns-in-Err-becomes
returns-in-Err-becomes c = λ s. gives RaiseOption _ _ (makes_none _ _ _ _ refl (second_none _ _ _ _ _ _ refl (was _ _ _ c.in-Ok.ensures) (first_none _ _ _ _ refl (was _ _ _ (c.in-Err-becomes.ensures s)))))
