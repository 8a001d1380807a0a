use Rattle.std.proofs.Common.{refl}
use Rattle.pl_body_grammar.specs.Grammar as spec
use Rattle.std.specs.Prelude.{Some}
use Rattle.pl_grammar.specs.Rule.{make, part, ◌then◌}
use Rattle.pl_body_grammar.proofs.Step.{was, reading, makes, makes_none, pairs, first_none, second_none}
use Rattle.pl_body_commands.proofs.commands.into_and_items.Goals as goal

pub returns-in-Ok-read_items : goal.returns-in-Ok-read_items
returns-in-Ok-read_items c = reading (make (λ p. (Some p.0, p.1)) (part spec.Into then spec.items)) _ _ (makes _ _ _ _ _ _ _ refl (pairs _ _ _ _ _ _ _ _ refl (was _ _ _ c.in-Ok.ensures) (was _ _ _ c.in-Ok-read_items.ensures)) refl)

pub returns-in-Err-read_items : goal.returns-in-Err-read_items
returns-in-Err-read_items c = λ s. reading (make (λ p. (Some p.0, p.1)) (part spec.Into then spec.items)) _ _ (makes_none _ _ _ _ refl (second_none _ _ _ _ _ _ refl (was _ _ _ c.in-Ok.ensures) (was _ _ _ (c.in-Err-read_items.ensures s))))

pub returns-in-Err : goal.returns-in-Err
returns-in-Err c = λ s. reading (make (λ p. (Some p.0, p.1)) (part spec.Into then spec.items)) _ _ (makes_none _ _ _ _ refl (first_none _ _ _ _ refl (was _ _ _ (c.in-Err.ensures s))))
