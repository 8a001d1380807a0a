use Rattle.std.proofs.Common.{rules}
use Rattle.pl_sql_parse.specs.Grammar.{Executed}
use Rattle.pl_sql_parse.proofs.Step.{gives, refused}
use Rattle.pl_sql_parse.proofs.triggers.executed.Goals as goal

pub returns-in-Err : goal.returns-in-Err
returns-in-Err c = refused Executed _ _ (search rules)

pub returns-in-Err-expect : goal.returns-in-Err-expect
returns-in-Err-expect c = refused Executed _ _ (search rules)

pub returns-in-Err-expect-2 : goal.returns-in-Err-expect-2
returns-in-Err-expect-2 c = refused Executed _ _ (search rules)

pub returns-then-eat : goal.returns-then-eat
returns-then-eat c = gives Executed _ _ (search rules)

pub returns-in-Err-expect-3 : goal.returns-in-Err-expect-3
returns-in-Err-expect-3 c = refused Executed _ _ (search rules)

pub returns-in-Err-name : goal.returns-in-Err-name
returns-in-Err-name c = refused Executed _ _ (search rules)

pub returns-in-Err-expect-4 : goal.returns-in-Err-expect-4
returns-in-Err-expect-4 c = refused Executed _ _ (search rules)

pub returns-in-Err-expect-5 : goal.returns-in-Err-expect-5
returns-in-Err-expect-5 c = refused Executed _ _ (search rules)

pub returns : goal.returns
returns c = gives Executed _ _ (search rules)
