use Rattle.std.proofs.Common.{rules}
use Rattle.pl_sql_parse.proofs.commands.undoing.Goals as goal

pub returns-then-eat : goal.returns-then-eat
returns-then-eat c = search rules

pub returns-in-Err : goal.returns-in-Err
returns-in-Err c = search rules

pub returns-then-eat-2 : goal.returns-then-eat-2
returns-then-eat-2 c = search rules

pub returns-in-Err-name : goal.returns-in-Err-name
returns-in-Err-name c = search rules

pub returns-then-eat-3 : goal.returns-then-eat-3
returns-then-eat-3 c = search rules

pub returns-in-Err-expect : goal.returns-in-Err-expect
returns-in-Err-expect c = search rules

pub returns-in-Err-read_savepoint_name : goal.returns-in-Err-read_savepoint_name
returns-in-Err-read_savepoint_name c = search rules

pub returns : goal.returns
returns c = search rules
