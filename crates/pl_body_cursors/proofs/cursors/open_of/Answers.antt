use Rattle.std.proofs.Common.{refl}
use Rattle.pl_bodies.specs.declared.simple.Simple.TheVariants as simple
use Rattle.pl_body_grammar.specs.Grammar as spec
use Rattle.pl_grammar.specs.Marks.{a_name}
use Rattle.pl_grammar.specs.Rule.{make, one, part, ◌then◌}
use Rattle.pl_body_grammar.proofs.Step.{was, reading, makes, makes_none, pairs, first_none, second_none}
use Rattle.pl_body_cursors.proofs.cursors.open_of.Goals as goal

pub returns-in-Ok-opened : goal.returns-in-Ok-opened
returns-in-Ok-opened c = reading (make (λ p. simple.Open p.0 p.1) (one a_name then part spec.Opened)) _ _ (makes _ _ _ _ _ _ _ refl (pairs _ _ _ _ _ _ _ _ refl (was _ _ _ c.in-Ok.ensures) (was _ _ _ c.in-Ok-opened.ensures)) refl)

pub returns-in-Err-opened : goal.returns-in-Err-opened
returns-in-Err-opened c = λ s. reading (make (λ p. simple.Open p.0 p.1) (one a_name then part spec.Opened)) _ _ (makes_none _ _ _ _ refl (second_none _ _ _ _ _ _ refl (was _ _ _ c.in-Ok.ensures) (was _ _ _ (c.in-Err-opened.ensures s))))

pub returns-in-Err : goal.returns-in-Err
returns-in-Err c = λ s. reading (make (λ p. simple.Open p.0 p.1) (one a_name then part spec.Opened)) _ _ (makes_none _ _ _ _ refl (first_none _ _ _ _ refl (was _ _ _ (c.in-Err.ensures s))))
