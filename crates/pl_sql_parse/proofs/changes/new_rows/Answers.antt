use Rattle.std.proofs.Common.{rules}
use Rattle.pl_sql_parse.specs.Grammar.{NewRows}
use Rattle.pl_sql_parse.proofs.Step.{gives, refused}
use Rattle.pl_sql_parse.proofs.changes.new_rows.Goals as goal

pub returns-in-Err : goal.returns-in-Err
returns-in-Err c = refused NewRows _ _ (search rules)

pub returns-then-eat : goal.returns-then-eat
returns-then-eat c = gives NewRows _ _ (search rules)

pub returns-in-Err-expect : goal.returns-in-Err-expect
returns-in-Err-expect c = refused NewRows _ _ (search rules)

pub returns-then-eat-2 : goal.returns-then-eat-2
returns-then-eat-2 c = gives NewRows _ _ (search rules)

pub returns-in-Err-read_query : goal.returns-in-Err-read_query
returns-in-Err-read_query c = refused NewRows _ _ (search rules)

pub returns : goal.returns
returns c = gives NewRows _ _ (search rules)
