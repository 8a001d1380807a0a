use Rattle.std.proofs.Common.{refl}
use Rattle.pl_body_grammar.specs.Grammar.{Execute}
use Rattle.pl_body_grammar.proofs.Step.{was, gives, makes, makes_none, pairs, first_none, second_none, until_last}
use Rattle.pl_body_commands.proofs.commands.execute.Goals as goal

pub returns-in-Ok-executed : goal.returns-in-Ok-executed
returns-in-Ok-executed c = gives Execute _ _ (makes _ _ _ _ _ _ _ refl (until_last _ _ _ _ _ _ refl (pairs _ _ _ _ _ _ _ _ refl (was _ _ _ c.in-Ok.ensures) (was _ _ _ c.in-Ok-executed.ensures))) refl)

pub returns-in-Err-executed : goal.returns-in-Err-executed
returns-in-Err-executed c = λ s. gives Execute _ _ (makes_none _ _ _ _ refl (until_last _ _ _ _ _ _ refl (second_none _ _ _ _ _ _ refl (was _ _ _ c.in-Ok.ensures) (was _ _ _ (c.in-Err-executed.ensures s)))))

pub returns-in-Err : goal.returns-in-Err
returns-in-Err c = λ s. gives Execute _ _ (makes_none _ _ _ _ refl (until_last _ _ _ _ _ _ refl (first_none _ _ _ _ refl (was _ _ _ (c.in-Err.ensures s)))))
