use Rattle.std.proofs.Common.{refl}
use Rattle.pl_body_grammar.specs.Grammar.{Fetch}
use Rattle.pl_body_grammar.proofs.Step.{was, gives, makes, makes_none, pairs, first_none, second_none}
use Rattle.pl_body_cursors.proofs.cursors.fetch.Goals as goal

pub returns-in-Ok-until : goal.returns-in-Ok-until
returns-in-Ok-until c = gives Fetch _ _ (makes _ _ _ _ _ _ _ refl (pairs _ _ _ _ _ _ _ _ refl (was _ _ _ c.in-Ok.ensures) (was _ _ _ (c.in-Ok-until.ensures _ c.targets-targets.ensures))) refl)

pub returns-in-Err-until : goal.returns-in-Err-until
returns-in-Err-until c = λ s. gives Fetch _ _ (makes_none _ _ _ _ refl (second_none _ _ _ _ _ _ refl (was _ _ _ c.in-Ok.ensures) (was _ _ _ (c.in-Err-until.ensures _ c.targets-targets.ensures s))))

pub returns-in-Err : goal.returns-in-Err
returns-in-Err c = λ s. gives Fetch _ _ (makes_none _ _ _ _ refl (first_none _ _ _ _ refl (was _ _ _ (c.in-Err.ensures s))))
