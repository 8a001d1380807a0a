use Rattle.std.proofs.Common.{rules}
use Rattle.pl_sql_parse.specs.Grammar.{NewRow}
use Rattle.pl_sql_parse.proofs.Step.{gives, refused}
use Rattle.pl_sql_parse.proofs.changes.new_row.Goals as goal

pub returns-in-Err : goal.returns-in-Err
returns-in-Err c = refused NewRow _ _ (search rules)

pub returns-in-Err-new_values : goal.returns-in-Err-new_values
returns-in-Err-new_values c = refused NewRow _ _ (search rules)

pub returns-in-Err-expect : goal.returns-in-Err-expect
returns-in-Err-expect c = refused NewRow _ _ (search rules)

pub returns : goal.returns
returns c = gives NewRow _ _ (search rules)
