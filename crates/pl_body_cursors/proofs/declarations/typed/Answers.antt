use Rattle.std.proofs.Common.{refl}
use Rattle.pl_body_grammar.specs.Grammar.{Typed}
use Rattle.pl_body_grammar.proofs.Step.{was, gives, pairs, first_none, second_none}
use Rattle.pl_body_cursors.proofs.declarations.typed.Goals as goal

pub returns-in-Err : goal.returns-in-Err
returns-in-Err c = λ s. gives Typed _ _ (first_none _ _ _ _ refl (was _ _ _ (c.in-Err.ensures s)))

pub returns-in-Ok-default : goal.returns-in-Ok-default
returns-in-Ok-default c = gives Typed _ _ (pairs _ _ _ _ _ _ _ _ refl (was _ _ _ c.in-Ok.ensures) (pairs _ _ _ _ _ _ _ _ refl (was _ _ _ c.in-Ok-not_null.ensures) (was _ _ _ c.in-Ok-default.ensures)))

pub returns-in-Err-default : goal.returns-in-Err-default
returns-in-Err-default c = λ s. gives Typed _ _ (second_none _ _ _ _ _ _ refl (was _ _ _ c.in-Ok.ensures) (second_none _ _ _ _ _ _ refl (was _ _ _ c.in-Ok-not_null.ensures) (was _ _ _ (c.in-Err-default.ensures s))))

pub returns-in-Err-not_null : goal.returns-in-Err-not_null
returns-in-Err-not_null c = λ s. gives Typed _ _ (second_none _ _ _ _ _ _ refl (was _ _ _ c.in-Ok.ensures) (first_none _ _ _ _ refl (was _ _ _ (c.in-Err-not_null.ensures s))))
