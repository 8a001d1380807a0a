use Rattle.std.proofs.Common.{rules}
use Rattle.pl_sql_parse.specs.Grammar.{Rollback}
use Rattle.pl_sql_parse.proofs.Step.{gives, refused}
use Rattle.pl_sql_parse.proofs.commands.rollback.Goals as goal

pub returns-in-Err : goal.returns-in-Err
returns-in-Err c = refused Rollback _ _ (search rules)

pub returns-in-Err-read_savepoint_name : goal.returns-in-Err-read_savepoint_name
returns-in-Err-read_savepoint_name c = refused Rollback _ _ (search rules)

pub returns-then-eat : goal.returns-then-eat
returns-then-eat c = gives Rollback _ _ (search rules)

pub returns : goal.returns
returns c = gives Rollback _ _ (search rules)
