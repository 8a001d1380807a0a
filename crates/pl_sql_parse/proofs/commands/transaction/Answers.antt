use Rattle.std.proofs.Common.{rules}
use Rattle.pl_sql_parse.specs.Grammar.{Transaction}
use Rattle.pl_sql_parse.proofs.Step.{gives, reads_rule, refused}
use Rattle.pl_sql_parse.proofs.commands.transaction.Goals as goal

pub returns-in-Err : goal.returns-in-Err
returns-in-Err c = refused Transaction _ _ (search rules)

pub returns-then-eat : goal.returns-then-eat
returns-then-eat c = gives Transaction _ _ (search rules)

pub returns-in-Err-expect : goal.returns-in-Err-expect
returns-in-Err-expect c = refused Transaction _ _ (search rules)

pub returns-then-eat-2 : goal.returns-then-eat-2
returns-then-eat-2 c = gives Transaction _ _ (search rules)

pub returns-in-Err-work : goal.returns-in-Err-work
returns-in-Err-work c = refused Transaction _ _ (search rules)

pub returns-then-eat-3 : goal.returns-then-eat-3
returns-then-eat-3 c = gives Transaction _ _ (search rules)

pub returns-in-Err-work-2 : goal.returns-in-Err-work-2
returns-in-Err-work-2 c = refused Transaction _ _ (search rules)

pub returns-then-eat-4 : goal.returns-then-eat-4
returns-then-eat-4 c = gives Transaction _ _ (search rules)

pub returns : goal.returns
returns c = reads_rule Transaction _ _ _ (search rules)
