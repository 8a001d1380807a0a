use Rattle.std.proofs.Common.{refl}
use Rattle.pl_body_grammar.specs.Grammar as spec
use Rattle.pl_body_grammar.proofs.Step.{was, reading, pairs, first_none, second_none}
use Rattle.pl_body_commands.proofs.commands.tail.Goals as goal

pub returns-in-Ok-grouped : goal.returns-in-Ok-grouped
returns-in-Ok-grouped c = reading spec.tail _ _ (pairs _ _ _ _ _ _ _ _ refl (was _ _ _ c.in-Ok.ensures) (pairs _ _ _ _ _ _ _ _ refl (was _ _ _ c.in-Ok-read_condition.ensures) (was _ _ _ c.in-Ok-grouped.ensures)))

pub returns-in-Err-grouped : goal.returns-in-Err-grouped
returns-in-Err-grouped c = λ s. reading spec.tail _ _ (second_none _ _ _ _ _ _ refl (was _ _ _ c.in-Ok.ensures) (second_none _ _ _ _ _ _ refl (was _ _ _ c.in-Ok-read_condition.ensures) (was _ _ _ (c.in-Err-grouped.ensures s))))

pub returns-in-Err-read_condition : goal.returns-in-Err-read_condition
returns-in-Err-read_condition c = λ s. reading spec.tail _ _ (second_none _ _ _ _ _ _ refl (was _ _ _ c.in-Ok.ensures) (first_none _ _ _ _ refl (was _ _ _ (c.in-Err-read_condition.ensures s))))

pub returns-in-Err : goal.returns-in-Err
returns-in-Err c = λ s. reading spec.tail _ _ (first_none _ _ _ _ refl (was _ _ _ (c.in-Err.ensures s)))
