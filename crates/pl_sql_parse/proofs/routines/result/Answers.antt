use Rattle.std.proofs.Common.{rules}
use Rattle.pl_sql_parse.specs.Grammar.{Result}
use Rattle.pl_sql_parse.proofs.Step.{gives, refused}
use Rattle.pl_sql_parse.proofs.routines.result.Goals as goal

pub returns-in-Err : goal.returns-in-Err
returns-in-Err c = refused Result _ _ (search rules)

pub returns-in-Err-clauses : goal.returns-in-Err-clauses
returns-in-Err-clauses c = refused Result _ _ (search rules)

pub returns-then-eat : goal.returns-then-eat
returns-then-eat c = gives Result _ _ (search rules)

pub returns-in-Err-expect : goal.returns-in-Err-expect
returns-in-Err-expect c = refused Result _ _ (search rules)

pub returns-in-Err-read_type : goal.returns-in-Err-read_type
returns-in-Err-read_type c = refused Result _ _ (search rules)

pub returns-in-Err-clauses-2 : goal.returns-in-Err-clauses-2
returns-in-Err-clauses-2 c = refused Result _ _ (search rules)

pub returns-then-sees_two : goal.returns-then-sees_two
returns-then-sees_two c = gives Result _ _ (search rules)

pub returns-in-Err-read_type-2 : goal.returns-in-Err-read_type-2
returns-in-Err-read_type-2 c = refused Result _ _ (search rules)

pub returns-in-Err-clauses-3 : goal.returns-in-Err-clauses-3
returns-in-Err-clauses-3 c = refused Result _ _ (search rules)

pub returns : goal.returns
returns c = gives Result _ _ (search rules)
