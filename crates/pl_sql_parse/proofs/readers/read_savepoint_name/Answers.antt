use Rattle.std.proofs.Common.{rules}
use Rattle.pl_sql_parse.specs.Grammar.{SavepointName}
use Rattle.pl_sql_parse.proofs.Step.{reads_rule, refused}
use Rattle.pl_sql_parse.proofs.readers.read_savepoint_name.Goals as goal

pub returns-in-Err : goal.returns-in-Err
returns-in-Err c = refused SavepointName _ _ (search rules)

pub returns-then-sees_two : goal.returns-then-sees_two
returns-then-sees_two c = reads_rule SavepointName _ _ _ (search rules)

pub returns : goal.returns
returns c = reads_rule SavepointName _ _ _ (search rules)
