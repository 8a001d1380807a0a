use Rattle.std.proofs.Common.{rules}
use Rattle.pl_sql_parse.specs.Grammar.{DropRoutine}
use Rattle.pl_sql_parse.proofs.Step.{gives, refused}
use Rattle.pl_sql_parse.proofs.drops.drop_routine.Goals as goal

pub returns-in-Err : goal.returns-in-Err
returns-in-Err c = refused DropRoutine _ _ (search rules)

pub returns-then-eat : goal.returns-then-eat
returns-then-eat c = gives DropRoutine _ _ (search rules)

pub returns-in-Err-expect : goal.returns-in-Err-expect
returns-in-Err-expect c = refused DropRoutine _ _ (search rules)

pub returns-in-Err-dropped : goal.returns-in-Err-dropped
returns-in-Err-dropped c = refused DropRoutine _ _ (search rules)

pub returns : goal.returns
returns c = gives DropRoutine _ _ (search rules)
