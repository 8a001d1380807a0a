use Rattle.std.proofs.Common.{refl}
use Rattle.pl_body_grammar.specs.Grammar.{FetchedFrom}
use Rattle.pl_body_grammar.proofs.Step.{was, gives, told, untold, makes, makes_none, pairs, first_none, second_none, until_last}
use Rattle.pl_body_cursors.proofs.cursors.fetched_from.Goals as goal

pub returns-in-Ok : goal.returns-in-Ok
returns-in-Ok c = gives FetchedFrom _ _ (told _ _ _ _ _ _ _ _ refl c.sees_pair.ensures c.if-sees_pair.true (makes _ _ _ _ _ _ _ refl (was _ _ _ (c.in-Ok.ensures _ c.name-cursor.ensures)) refl))

pub returns-in-Err : goal.returns-in-Err
returns-in-Err c = λ s. gives FetchedFrom _ _ (told _ _ _ _ _ _ _ _ refl c.sees_pair.ensures c.if-sees_pair.true (makes_none _ _ _ _ refl (was _ _ _ (c.in-Err.ensures _ c.name-cursor.ensures s))))

pub returns-in-Ok-until : goal.returns-in-Ok-until
returns-in-Ok-until c = gives FetchedFrom _ _ (untold _ _ _ _ _ _ _ _ refl c.sees_pair.ensures c.if-sees_pair.false (until_last _ _ _ _ _ _ refl (pairs _ _ _ _ _ _ _ _ refl (was _ _ _ c.in-Ok-direction.ensures) (was _ _ _ (c.in-Ok-until.ensures _ c.from_name-cursor.ensures)))))

pub returns-in-Err-until : goal.returns-in-Err-until
returns-in-Err-until c = λ s. gives FetchedFrom _ _ (untold _ _ _ _ _ _ _ _ refl c.sees_pair.ensures c.if-sees_pair.false (until_last _ _ _ _ _ _ refl (second_none _ _ _ _ _ _ refl (was _ _ _ c.in-Ok-direction.ensures) (was _ _ _ (c.in-Err-until.ensures _ c.from_name-cursor.ensures s)))))

pub returns-in-Err-direction : goal.returns-in-Err-direction
returns-in-Err-direction c = λ s. gives FetchedFrom _ _ (untold _ _ _ _ _ _ _ _ refl c.sees_pair.ensures c.if-sees_pair.false (until_last _ _ _ _ _ _ refl (first_none _ _ _ _ refl (was _ _ _ (c.in-Err-direction.ensures s)))))
