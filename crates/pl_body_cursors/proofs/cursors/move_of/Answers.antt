use Rattle.std.proofs.Common.{refl}
use Rattle.pl_body_grammar.specs.Grammar.{Move}
use Rattle.pl_body_grammar.proofs.Step.{was, gives, told, untold, makes, makes_none}
use Rattle.pl_body_cursors.proofs.cursors.move_of.Goals as goal

pub returns-in-Ok : goal.returns-in-Ok
returns-in-Ok c = gives Move _ _ (told _ _ _ _ _ _ _ _ refl c.sees_pair.ensures c.if-sees_pair.true (makes _ _ _ _ _ _ _ refl (was _ _ _ (c.in-Ok.ensures _ c.name-cursor.ensures)) refl))

pub returns-in-Err : goal.returns-in-Err
returns-in-Err c = λ s. gives Move _ _ (told _ _ _ _ _ _ _ _ refl c.sees_pair.ensures c.if-sees_pair.true (makes_none _ _ _ _ refl (was _ _ _ (c.in-Err.ensures _ c.name-cursor.ensures s))))

pub returns-in-Ok-until : goal.returns-in-Ok-until
returns-in-Ok-until c = gives Move _ _ (untold _ _ _ _ _ _ _ _ refl c.sees_pair.ensures c.if-sees_pair.false (makes _ _ _ _ _ _ _ refl (was _ _ _ (c.in-Ok-until.ensures _ c.motion-moved.ensures)) refl))

pub returns-in-Err-until : goal.returns-in-Err-until
returns-in-Err-until c = λ s. gives Move _ _ (untold _ _ _ _ _ _ _ _ refl c.sees_pair.ensures c.if-sees_pair.false (makes_none _ _ _ _ refl (was _ _ _ (c.in-Err-until.ensures _ c.motion-moved.ensures s))))
