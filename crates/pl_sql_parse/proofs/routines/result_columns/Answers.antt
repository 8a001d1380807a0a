use Rattle.std.proofs.Common.{rules}
use Rattle.pl_sql_parse.specs.Grammar.{ResultColumns}
use Rattle.pl_sql_parse.proofs.Step.{gives, refused}
use Rattle.pl_sql_parse.proofs.routines.result_columns.Goals as goal

pub returns-in-Err : goal.returns-in-Err
returns-in-Err c = refused ResultColumns _ _ (search rules)

pub returns-in-Err-column_list : goal.returns-in-Err-column_list
returns-in-Err-column_list c = refused ResultColumns _ _ (search rules)

pub returns-in-Err-expect : goal.returns-in-Err-expect
returns-in-Err-expect c = refused ResultColumns _ _ (search rules)

pub returns : goal.returns
returns c = gives ResultColumns _ _ (search rules)
