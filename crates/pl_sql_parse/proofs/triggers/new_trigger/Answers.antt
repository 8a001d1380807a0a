use Rattle.std.proofs.Common.{rules}
use Rattle.pl_sql_parse.specs.Grammar.{NewTrigger}
use Rattle.pl_sql_parse.proofs.Step.{gives, refused}
use Rattle.pl_sql_parse.proofs.triggers.new_trigger.Goals as goal

pub returns-in-Err : goal.returns-in-Err
returns-in-Err c = refused NewTrigger _ _ (search rules)

pub returns-in-Err-timing : goal.returns-in-Err-timing
returns-in-Err-timing c = refused NewTrigger _ _ (search rules)

pub returns-in-Err-events : goal.returns-in-Err-events
returns-in-Err-events c = refused NewTrigger _ _ (search rules)

pub returns-in-Err-expect : goal.returns-in-Err-expect
returns-in-Err-expect c = refused NewTrigger _ _ (search rules)

pub returns-in-Err-table_name : goal.returns-in-Err-table_name
returns-in-Err-table_name c = refused NewTrigger _ _ (search rules)

pub returns-in-Err-expect-2 : goal.returns-in-Err-expect-2
returns-in-Err-expect-2 c = refused NewTrigger _ _ (search rules)

pub returns-in-Err-expect-3 : goal.returns-in-Err-expect-3
returns-in-Err-expect-3 c = refused NewTrigger _ _ (search rules)

pub returns-in-Err-expect-4 : goal.returns-in-Err-expect-4
returns-in-Err-expect-4 c = refused NewTrigger _ _ (search rules)

pub returns-in-Err-executed : goal.returns-in-Err-executed
returns-in-Err-executed c = refused NewTrigger _ _ (search rules)

pub returns : goal.returns
returns c = gives NewTrigger _ _ (search rules)
