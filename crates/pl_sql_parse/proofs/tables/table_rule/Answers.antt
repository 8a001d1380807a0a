use Rattle.std.proofs.Common.{rules}
use Rattle.pl_sql_parse.specs.Grammar.{TableRule}
use Rattle.pl_sql_parse.proofs.Step.{gives, reads_rule, refused}
use Rattle.pl_sql_parse.proofs.tables.table_rule.Goals as goal

pub returns-in-Err : goal.returns-in-Err
returns-in-Err c = refused TableRule _ _ (search rules)

pub returns-then-eat : goal.returns-then-eat
returns-then-eat c = gives TableRule _ _ (search rules)

pub returns-in-Err-bracketed_names : goal.returns-in-Err-bracketed_names
returns-in-Err-bracketed_names c = refused TableRule _ _ (search rules)

pub returns-then-eat-2 : goal.returns-then-eat-2
returns-then-eat-2 c = gives TableRule _ _ (search rules)

pub returns-in-Err-expect : goal.returns-in-Err-expect
returns-in-Err-expect c = refused TableRule _ _ (search rules)

pub returns-in-Err-bracketed_names-2 : goal.returns-in-Err-bracketed_names-2
returns-in-Err-bracketed_names-2 c = refused TableRule _ _ (search rules)

pub returns-then-eat-3 : goal.returns-then-eat-3
returns-then-eat-3 c = gives TableRule _ _ (search rules)

pub returns-in-Err-expect-2 : goal.returns-in-Err-expect-2
returns-in-Err-expect-2 c = refused TableRule _ _ (search rules)

pub returns-in-Err-expect-3 : goal.returns-in-Err-expect-3
returns-in-Err-expect-3 c = refused TableRule _ _ (search rules)

pub returns : goal.returns
returns c = reads_rule TableRule _ _ _ (search rules)
