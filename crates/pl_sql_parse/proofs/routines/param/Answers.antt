use Rattle.std.proofs.Common.{rules}
use Rattle.pl_sql_parse.specs.Grammar.{Param}
use Rattle.pl_sql_parse.proofs.Step.{gives, reads_rule, refused}
use Rattle.pl_sql_parse.proofs.routines.param.Goals as goal

pub returns-in-Err : goal.returns-in-Err
returns-in-Err c = refused Param _ _ (search rules)

pub returns-then-eat : goal.returns-then-eat
returns-then-eat c = gives Param _ _ (search rules)

pub returns-then-has_way : goal.returns-then-has_way
returns-then-has_way c = reads_rule Param _ _ _ (search rules)

pub returns-in-Err-named_type : goal.returns-in-Err-named_type
returns-in-Err-named_type c = refused Param _ _ (search rules)

pub returns : goal.returns
returns c = gives Param _ _ (search rules)
