use Rattle.std.proofs.Common.{rules}
use Rattle.pl_sql_parse.specs.Grammar.{FirstColumn}
use Rattle.pl_sql_parse.proofs.Step.{gives, refused}
use Rattle.pl_sql_parse.proofs.changes.first_column.Goals as goal

pub returns-in-Err : goal.returns-in-Err
returns-in-Err c = refused FirstColumn _ _ (search rules)

pub returns-in-Err-expect : goal.returns-in-Err-expect
returns-in-Err-expect c = refused FirstColumn _ _ (search rules)

pub returns-in-Err-name : goal.returns-in-Err-name
returns-in-Err-name c = refused FirstColumn _ _ (search rules)

pub returns-then-eat : goal.returns-then-eat
returns-then-eat c = gives FirstColumn _ _ (search rules)

pub returns-in-Err-bare_alias : goal.returns-in-Err-bare_alias
returns-in-Err-bare_alias c = refused FirstColumn _ _ (search rules)

pub returns-in-Err-expect-2 : goal.returns-in-Err-expect-2
returns-in-Err-expect-2 c = refused FirstColumn _ _ (search rules)

pub returns-in-Err-name-2 : goal.returns-in-Err-name-2
returns-in-Err-name-2 c = refused FirstColumn _ _ (search rules)

pub returns-then-sees_three : goal.returns-then-sees_three
returns-then-sees_three c = gives FirstColumn _ _ (search rules)

pub returns-in-Err-expect-3 : goal.returns-in-Err-expect-3
returns-in-Err-expect-3 c = refused FirstColumn _ _ (search rules)

pub returns-in-Err-name-3 : goal.returns-in-Err-name-3
returns-in-Err-name-3 c = refused FirstColumn _ _ (search rules)

pub returns : goal.returns
returns c = gives FirstColumn _ _ (search rules)
