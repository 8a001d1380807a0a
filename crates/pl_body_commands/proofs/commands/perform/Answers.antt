use Rattle.std.proofs.Common.{refl, ap}
use Rattle.pl_bodies.specs.declared.simple.Simple.TheVariants as simple
use Rattle.pl_body_grammar.specs.Grammar.{Perform}
use Rattle.pl_body_grammar.proofs.Step.{was, gives, so_made, makes, makes_none, pairs, first_none, second_none}
use Rattle.pl_body_commands.proofs.commands.perform.Goals as goal

pub returns-in-Ok-query_end : goal.returns-in-Ok-query_end
returns-in-Ok-query_end c = gives Perform _ _ (so_made _ _ _ _ (ap simple.Perform c.query_of.ensures) (makes _ _ _ _ _ _ _ refl (pairs _ _ _ _ _ _ _ _ refl (was _ _ _ c.in-Ok.ensures) (was _ _ _ c.in-Ok-query_end.ensures)) refl))

pub returns-in-Err-query_end : goal.returns-in-Err-query_end
returns-in-Err-query_end c = λ s. gives Perform _ _ (makes_none _ _ _ _ refl (second_none _ _ _ _ _ _ refl (was _ _ _ c.in-Ok.ensures) (was _ _ _ (c.in-Err-query_end.ensures s))))

pub returns-in-Err : goal.returns-in-Err
returns-in-Err c = λ s. gives Perform _ _ (makes_none _ _ _ _ refl (first_none _ _ _ _ refl (was _ _ _ (c.in-Err.ensures s))))
