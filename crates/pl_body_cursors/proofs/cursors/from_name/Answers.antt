use Rattle.std.proofs.Common.{refl}
use Rattle.pl_grammar.specs.Marks.{a_name}
use Rattle.pl_grammar.specs.Rule.{one}
use Rattle.pl_body_grammar.specs.Grammar.{FromName, FromOrIn}
use Rattle.pl_body_grammar.proofs.Step.{was, reads_by, gives, makes_none, first_none, itself, made_behind}
use Rattle.pl_body_cursors.proofs.cursors.from_name.Goals as goal

pub returns-in-Ok : goal.returns-in-Ok
returns-in-Ok c = reads_by FromName _ _ _ (made_behind _ _ _ _ _ _ _ _ _ refl (was _ _ _ (gives FromOrIn _ _ (was _ _ _ c.in-Ok.ensures))) (itself (one a_name) _ _ _ c.name.ensures))

pub returns-in-Err : goal.returns-in-Err
returns-in-Err c = λ s. gives FromName _ _ (makes_none _ _ _ _ refl (first_none _ _ _ _ refl (was _ _ _ (gives FromOrIn _ _ (was _ _ _ (c.in-Err.ensures s))))))
