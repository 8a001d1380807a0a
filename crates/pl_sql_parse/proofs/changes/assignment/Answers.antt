use Rattle.std.proofs.Common.{rules}
use Rattle.pl_sql_parse.specs.Grammar.{Assignment}
use Rattle.pl_sql_parse.proofs.Step.{gives, refused}
use Rattle.pl_sql_parse.proofs.changes.assignment.Goals as goal

pub returns-in-Err : goal.returns-in-Err
returns-in-Err c = refused Assignment _ _ (search rules)

pub returns-in-Err-expect : goal.returns-in-Err-expect
returns-in-Err-expect c = refused Assignment _ _ (search rules)

pub returns-in-Err-new_value : goal.returns-in-Err-new_value
returns-in-Err-new_value c = refused Assignment _ _ (search rules)

pub returns : goal.returns
returns c = gives Assignment _ _ (search rules)
