use Rattle.std.proofs.Common.{refl}
use Rattle.pl_body_grammar.specs.Grammar.{Upward}
use Rattle.pl_body_grammar.proofs.Step.{was, reads_by, gives, pairs, first_none, second_none, checks, checks_none}
use Rattle.pl_body_commands.proofs.loops.upward.Goals as goal

pub returns-in-Ok-upper : goal.returns-in-Ok-upper
returns-in-Ok-upper c = reads_by Upward _ _ _ (checks _ _ _ _ _ _ _ refl (pairs _ _ _ _ _ _ _ _ refl (was _ _ _ c.in-Ok.ensures) (was _ _ _ c.in-Ok-upper.ensures)) c.upward_of.ensures)

pub returns-in-Err-upper : goal.returns-in-Err-upper
returns-in-Err-upper c = λ s. gives Upward _ _ (checks_none _ _ _ _ refl (second_none _ _ _ _ _ _ refl (was _ _ _ c.in-Ok.ensures) (was _ _ _ (c.in-Err-upper.ensures s))))

pub returns-in-Err : goal.returns-in-Err
returns-in-Err c = λ s. gives Upward _ _ (checks_none _ _ _ _ refl (first_none _ _ _ _ refl (was _ _ _ (c.in-Err.ensures s))))
