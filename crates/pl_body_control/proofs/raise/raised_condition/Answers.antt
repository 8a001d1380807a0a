use Rattle.std.proofs.Common.{refl}
use Rattle.pl_bodies.specs.declared.simple.Raised.TheVariants as raised
use Rattle.pl_body_grammar.specs.Grammar as spec
use Rattle.pl_grammar.specs.Rule.{make, part, ◌then◌}
use Rattle.pl_body_grammar.proofs.Step.{was, reading, makes, makes_none, pairs, first_none, second_none}
use Rattle.pl_body_control.proofs.raise.raised_condition.Goals as goal

pub returns-in-Ok-using_options : goal.returns-in-Ok-using_options
returns-in-Ok-using_options c = reading (make (λ p. (raised.Condition p.0, p.1)) (part spec.ConditionName then part spec.UsingOptions)) _ _ (makes _ _ _ _ _ _ _ refl (pairs _ _ _ _ _ _ _ _ refl (was _ _ _ c.in-Ok.ensures) (was _ _ _ c.in-Ok-using_options.ensures)) refl)

pub returns-in-Err-using_options : goal.returns-in-Err-using_options
returns-in-Err-using_options c = λ s. reading (make (λ p. (raised.Condition p.0, p.1)) (part spec.ConditionName then part spec.UsingOptions)) _ _ (makes_none _ _ _ _ refl (second_none _ _ _ _ _ _ refl (was _ _ _ c.in-Ok.ensures) (was _ _ _ (c.in-Err-using_options.ensures s))))

pub returns-in-Err : goal.returns-in-Err
returns-in-Err c = λ s. reading (make (λ p. (raised.Condition p.0, p.1)) (part spec.ConditionName then part spec.UsingOptions)) _ _ (makes_none _ _ _ _ refl (first_none _ _ _ _ refl (was _ _ _ (c.in-Err.ensures s))))
