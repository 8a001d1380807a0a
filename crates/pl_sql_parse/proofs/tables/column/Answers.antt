use Rattle.std.proofs.Common.{rules}
use Rattle.pl_sql_parse.specs.Grammar.{Column}
use Rattle.pl_sql_parse.proofs.Step.{reads_rule, refused}
use Rattle.pl_sql_parse.proofs.tables.column.Goals as goal

pub returns-in-Err : goal.returns-in-Err
returns-in-Err c = refused Column _ _ (search rules)

pub returns-in-Err-read_type : goal.returns-in-Err-read_type
returns-in-Err-read_type c = refused Column _ _ (search rules)

pub returns-in-Err-column_rules : goal.returns-in-Err-column_rules
returns-in-Err-column_rules c = refused Column _ _ (search rules)

pub returns : goal.returns
returns c = reads_rule Column _ _ _ (search rules)
