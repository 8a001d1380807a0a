use Rattle.std.proofs.Common.{rules}
use Rattle.pl_sql_parse.specs.Grammar.{WayParam}
use Rattle.pl_sql_parse.proofs.Step.{gives, refused}
use Rattle.pl_sql_parse.proofs.routines.way_param.Goals as goal

pub returns-in-Err : goal.returns-in-Err
returns-in-Err c = refused WayParam _ _ (search rules)

pub returns-then-eat : goal.returns-then-eat
returns-then-eat c = gives WayParam _ _ (search rules)

pub returns-in-Err-expect : goal.returns-in-Err-expect
returns-in-Err-expect c = refused WayParam _ _ (search rules)

pub returns-in-Err-named_type : goal.returns-in-Err-named_type
returns-in-Err-named_type c = refused WayParam _ _ (search rules)

pub returns : goal.returns
returns c = gives WayParam _ _ (search rules)
