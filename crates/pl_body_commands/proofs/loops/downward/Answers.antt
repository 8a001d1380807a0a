use Rattle.std.proofs.Common.{refl}
use Rattle.pl_body_grammar.specs.Grammar.{Downward}
use Rattle.pl_body_grammar.proofs.Step.{was, gives, makes, makes_none, pairs, first_none, second_none}
use Rattle.pl_body_commands.proofs.loops.downward.Goals as goal

pub returns-in-Ok-last : goal.returns-in-Ok-last
returns-in-Ok-last c = gives Downward _ _ (makes _ _ _ _ _ _ _ refl (pairs _ _ _ _ _ _ _ _ refl (was _ _ _ c.in-Ok.ensures) (was _ _ _ c.in-Ok-last.ensures)) refl)

pub returns-in-Err-last : goal.returns-in-Err-last
returns-in-Err-last c = λ s. gives Downward _ _ (makes_none _ _ _ _ refl (second_none _ _ _ _ _ _ refl (was _ _ _ c.in-Ok.ensures) (was _ _ _ (c.in-Err-last.ensures s))))

pub returns-in-Err : goal.returns-in-Err
returns-in-Err c = λ s. gives Downward _ _ (makes_none _ _ _ _ refl (first_none _ _ _ _ refl (was _ _ _ (c.in-Err.ensures s))))
