use Rattle.std.proofs.Common.{refl}
use Rattle.pl_body_grammar.specs.Grammar.{Format}
use Rattle.pl_body_grammar.proofs.Step.{was, gives, pairs, first_none, second_none}
use Rattle.pl_body_control.proofs.raise.format.Goals as goal

pub returns-in-Ok-more_expressions : goal.returns-in-Ok-more_expressions
returns-in-Ok-more_expressions c = gives Format _ _ (pairs _ _ _ _ _ _ _ _ refl (was _ _ _ c.in-Ok.ensures) (was _ _ _ c.in-Ok-more_expressions.ensures))

pub returns-in-Err-more_expressions : goal.returns-in-Err-more_expressions
returns-in-Err-more_expressions c = λ s. gives Format _ _ (second_none _ _ _ _ _ _ refl (was _ _ _ c.in-Ok.ensures) (was _ _ _ (c.in-Err-more_expressions.ensures s)))

pub returns-in-Err : goal.returns-in-Err
returns-in-Err c = λ s. gives Format _ _ (first_none _ _ _ _ refl (was _ _ _ (c.in-Err.ensures s)))
