use Rattle.std.proofs.Common.{refl}
use Rattle.pl_expr_parse.specs.Grammar as x
use Rattle.pl_expr_parse.specs.Finished.{finished}
use Rattle.pl_grammar.specs.Rule.{given, ◌then◌}
use Rattle.pl_body_grammar.proofs.Step.{was, reading, pairs, first_none, second_none}
use Rattle.pl_body_commands.proofs.commands.ordered.Goals as goal

pub returns-in-Ok-read_paging : goal.returns-in-Ok-read_paging
returns-in-Ok-read_paging c = reading (given (finished x.Order) then given (finished x.Paging)) _ _ (pairs _ _ _ _ _ _ _ _ refl (was _ _ _ c.in-Ok.ensures) (was _ _ _ c.in-Ok-read_paging.ensures))

pub returns-in-Err-read_paging : goal.returns-in-Err-read_paging
returns-in-Err-read_paging c = λ s. reading (given (finished x.Order) then given (finished x.Paging)) _ _ (second_none _ _ _ _ _ _ refl (was _ _ _ c.in-Ok.ensures) (was _ _ _ (c.in-Err-read_paging.ensures s)))

pub returns-in-Err : goal.returns-in-Err
returns-in-Err c = λ s. reading (given (finished x.Order) then given (finished x.Paging)) _ _ (first_none _ _ _ _ refl (was _ _ _ (c.in-Err.ensures s)))
