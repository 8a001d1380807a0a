use Rattle.std.proofs.Common.{rules}
use Rattle.pl_sql_parse.specs.Grammar.{Clause}
use Rattle.pl_sql_parse.proofs.Step.{gives, refused}
use Rattle.pl_sql_parse.proofs.routines.clause.Goals as goal

pub returns-in-Err : goal.returns-in-Err
returns-in-Err c = refused Clause _ _ (search rules)

pub returns-then-eat : goal.returns-then-eat
returns-then-eat c = gives Clause _ _ (search rules)

pub returns-in-Err-text : goal.returns-in-Err-text
returns-in-Err-text c = refused Clause _ _ (search rules)

pub returns-then-eat-2 : goal.returns-then-eat-2
returns-then-eat-2 c = gives Clause _ _ (search rules)

pub returns-then-eat-3 : goal.returns-then-eat-3
returns-then-eat-3 c = gives Clause _ _ (search rules)

pub returns-then-eat-4 : goal.returns-then-eat-4
returns-then-eat-4 c = gives Clause _ _ (search rules)

pub returns-in-Err-expect : goal.returns-in-Err-expect
returns-in-Err-expect c = refused Clause _ _ (search rules)

pub returns : goal.returns
returns c = gives Clause _ _ (search rules)
