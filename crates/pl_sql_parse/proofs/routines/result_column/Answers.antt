use Rattle.std.proofs.Common.{rules}
use Rattle.pl_sql_parse.specs.Grammar.{ResultColumn}
use Rattle.pl_sql_parse.proofs.Step.{gives, refused}
use Rattle.pl_sql_parse.proofs.routines.result_column.Goals as goal

pub returns-in-Err : goal.returns-in-Err
returns-in-Err c = refused ResultColumn _ _ (search rules)

pub returns-in-Err-read_type : goal.returns-in-Err-read_type
returns-in-Err-read_type c = refused ResultColumn _ _ (search rules)

pub returns : goal.returns
returns c = gives ResultColumn _ _ (search rules)
