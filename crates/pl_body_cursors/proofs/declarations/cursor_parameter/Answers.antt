use Rattle.std.proofs.Common.{refl}
use Rattle.pl_body_grammar.specs.Grammar.{CursorParameter}
use Rattle.pl_body_grammar.proofs.Step.{was, gives, makes, makes_none, pairs, first_none, second_none}
use Rattle.pl_body_cursors.proofs.declarations.cursor_parameter.Goals as goal

pub returns-in-Ok-read_type : goal.returns-in-Ok-read_type
returns-in-Ok-read_type c = gives CursorParameter _ _ (makes _ _ _ _ _ _ _ refl (pairs _ _ _ _ _ _ _ _ refl (was _ _ _ c.in-Ok.ensures) (was _ _ _ c.in-Ok-read_type.ensures)) refl)

pub returns-in-Err-read_type : goal.returns-in-Err-read_type
returns-in-Err-read_type c = λ s. gives CursorParameter _ _ (makes_none _ _ _ _ refl (second_none _ _ _ _ _ _ refl (was _ _ _ c.in-Ok.ensures) (was _ _ _ (c.in-Err-read_type.ensures s))))

pub returns-in-Err : goal.returns-in-Err
returns-in-Err c = λ s. gives CursorParameter _ _ (makes_none _ _ _ _ refl (first_none _ _ _ _ refl (was _ _ _ (c.in-Err.ensures s))))
