use Rattle.std.proofs.Common.{refl}
use Rattle.pl_expr_parse.specs.Grammar as x
use Rattle.pl_expr_parse.specs.Finished.{finished}
use Rattle.pl_grammar.specs.Rule.{given, ◌then◌}
use Rattle.pl_body_grammar.proofs.Step.{was, reading, pairs, first_none, second_none}
use Rattle.pl_body_commands.proofs.commands.grouped.Goals as goal

pub returns-in-Ok-ordered : goal.returns-in-Ok-ordered
returns-in-Ok-ordered c = reading (given (finished x.Groups) then given (finished x.Having) then given (finished x.Order) then given (finished x.Paging)) _ _ (pairs _ _ _ _ _ _ _ _ refl (was _ _ _ c.in-Ok.ensures) (pairs _ _ _ _ _ _ _ _ refl (was _ _ _ c.in-Ok-read_having.ensures) (was _ _ _ c.in-Ok-ordered.ensures)))

pub returns-in-Err-ordered : goal.returns-in-Err-ordered
returns-in-Err-ordered c = λ s. reading (given (finished x.Groups) then given (finished x.Having) then given (finished x.Order) then given (finished x.Paging)) _ _ (second_none _ _ _ _ _ _ refl (was _ _ _ c.in-Ok.ensures) (second_none _ _ _ _ _ _ refl (was _ _ _ c.in-Ok-read_having.ensures) (was _ _ _ (c.in-Err-ordered.ensures s))))

pub returns-in-Err-read_having : goal.returns-in-Err-read_having
returns-in-Err-read_having c = λ s. reading (given (finished x.Groups) then given (finished x.Having) then given (finished x.Order) then given (finished x.Paging)) _ _ (second_none _ _ _ _ _ _ refl (was _ _ _ c.in-Ok.ensures) (first_none _ _ _ _ refl (was _ _ _ (c.in-Err-read_having.ensures s))))

pub returns-in-Err : goal.returns-in-Err
returns-in-Err c = λ s. reading (given (finished x.Groups) then given (finished x.Having) then given (finished x.Order) then given (finished x.Paging)) _ _ (first_none _ _ _ _ refl (was _ _ _ (c.in-Err.ensures s)))
