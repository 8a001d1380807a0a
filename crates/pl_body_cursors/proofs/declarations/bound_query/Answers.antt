use Rattle.std.proofs.Common.{refl}
use Rattle.pl_body_grammar.specs.Grammar.{BoundQuery, ForOrIs}
use Rattle.pl_body_grammar.proofs.Step.{was, gives, makes_none, first_none, second_none, so_made, makes, pairs}
use Rattle.pl_body_cursors.proofs.declarations.bound_query.Goals as goal

pub returns-in-Err-until : goal.returns-in-Err-until
returns-in-Err-until c = λ s. gives BoundQuery _ _ (makes_none _ _ _ _ refl (second_none _ _ _ _ _ _ refl (was _ _ _ (gives ForOrIs _ _ (was _ _ _ c.in-Ok.ensures))) (was _ _ _ (c.in-Err-until.ensures _ c.read_query-query.ensures s))))

pub returns-in-Err : goal.returns-in-Err
returns-in-Err c = λ s. gives BoundQuery _ _ (makes_none _ _ _ _ refl (first_none _ _ _ _ refl (was _ _ _ (gives ForOrIs _ _ (was _ _ _ (c.in-Err.ensures s))))))

pub returns-in_ok-new-in-Ok-until : goal.returns-in_ok-new-in-Ok-until
returns-in_ok-new-in-Ok-until c = gives BoundQuery _ _ (so_made _ _ _ _ c.in_ok-new-in-Ok-until.ensures (makes _ _ _ _ _ _ _ refl (pairs _ _ _ _ _ _ _ _ refl (was _ _ _ (gives ForOrIs _ _ (was _ _ _ c.in-Ok.ensures))) (was _ _ _ (c.in-Ok-until.ensures _ c.read_query-query.ensures))) refl))
