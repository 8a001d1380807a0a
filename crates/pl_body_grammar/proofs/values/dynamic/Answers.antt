use Rattle.std.proofs.Common.{refl}
use Rattle.pl_body_grammar.specs.Grammar.{Dynamic}
use Rattle.pl_body_grammar.proofs.Step.{was, gives, makes, makes_none, pairs, first_none, second_none}
use Rattle.pl_body_grammar.proofs.values.dynamic.Goals as goal

pub returns-in-Ok-using : goal.returns-in-Ok-using
returns-in-Ok-using c = gives Dynamic _ _ (makes _ _ _ _ _ _ _ refl (pairs _ _ _ _ _ _ _ _ refl (was _ _ _ c.in-Ok.ensures) (was _ _ _ c.in-Ok-using.ensures)) refl)

pub returns-in-Err-using : goal.returns-in-Err-using
returns-in-Err-using c = λ s. gives Dynamic _ _ (makes_none _ _ _ _ refl (second_none _ _ _ _ _ _ refl (was _ _ _ c.in-Ok.ensures) (was _ _ _ (c.in-Err-using.ensures s))))

pub returns-in-Err : goal.returns-in-Err
returns-in-Err c = λ s. gives Dynamic _ _ (makes_none _ _ _ _ refl (first_none _ _ _ _ refl (was _ _ _ (c.in-Err.ensures s))))
