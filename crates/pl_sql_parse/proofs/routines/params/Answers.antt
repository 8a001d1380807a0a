use Rattle.std.proofs.Common.{rules}
use Rattle.pl_sql_parse.specs.Grammar.{Params}
use Rattle.pl_sql_parse.proofs.Step.{gives, refused}
use Rattle.pl_sql_parse.proofs.routines.params.Goals as goal

pub returns-then-eat : goal.returns-then-eat
returns-then-eat c = gives Params _ _ (search rules)

pub returns-in-Err : goal.returns-in-Err
returns-in-Err c = refused Params _ _ (search rules)

pub returns-in-Err-expect : goal.returns-in-Err-expect
returns-in-Err-expect c = refused Params _ _ (search rules)

pub returns : goal.returns
returns c = gives Params _ _ (search rules)
