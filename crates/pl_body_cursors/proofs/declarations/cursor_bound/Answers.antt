use Rattle.std.proofs.Common.{refl}
use Rattle.pl_body_grammar.specs.Grammar as spec
use Rattle.pl_grammar.specs.Rule.{part, ◌then◌}
use Rattle.pl_body_grammar.proofs.Step.{was, reading, pairs, first_none, second_none}
use Rattle.pl_body_cursors.proofs.declarations.cursor_bound.Goals as goal

pub returns-in-Ok-bound_query : goal.returns-in-Ok-bound_query
returns-in-Ok-bound_query c = reading (part spec.CursorParameters then part spec.BoundQuery) _ _ (pairs _ _ _ _ _ _ _ _ refl (was _ _ _ c.in-Ok.ensures) (was _ _ _ c.in-Ok-bound_query.ensures))

pub returns-in-Err-bound_query : goal.returns-in-Err-bound_query
returns-in-Err-bound_query c = λ s. reading (part spec.CursorParameters then part spec.BoundQuery) _ _ (second_none _ _ _ _ _ _ refl (was _ _ _ c.in-Ok.ensures) (was _ _ _ (c.in-Err-bound_query.ensures s)))

pub returns-in-Err : goal.returns-in-Err
returns-in-Err c = λ s. reading (part spec.CursorParameters then part spec.BoundQuery) _ _ (first_none _ _ _ _ refl (was _ _ _ (c.in-Err.ensures s)))
