use Rattle.std.proofs.Common.{rules}
use Rattle.pl_sql_parse.specs.Grammar.{Update}
use Rattle.pl_sql_parse.proofs.Step.{gives, refused}
use Rattle.pl_sql_parse.proofs.readers.read_update.Goals as goal

pub returns-in-Err : goal.returns-in-Err
returns-in-Err c = refused Update _ _ (search rules)

pub returns-in-Err-first_column : goal.returns-in-Err-first_column
returns-in-Err-first_column c = refused Update _ _ (search rules)

pub returns-in-Err-assigned : goal.returns-in-Err-assigned
returns-in-Err-assigned c = refused Update _ _ (search rules)

pub returns-in-Err-condition : goal.returns-in-Err-condition
returns-in-Err-condition c = refused Update _ _ (search rules)

pub returns-in-Err-returning : goal.returns-in-Err-returning
returns-in-Err-returning c = refused Update _ _ (search rules)

pub returns : goal.returns
returns c = gives Update _ _ (search rules)
