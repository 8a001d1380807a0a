use Rattle.std.proofs.Common.{rules}
use Rattle.pl_sql_parse.specs.Grammar.{Returned}
use Rattle.pl_sql_parse.proofs.Step.{gives, reads_rule, refused}
use Rattle.pl_sql_parse.proofs.routines.returned.Goals as goal

pub returns-then-eat : goal.returns-then-eat
returns-then-eat c = reads_rule Returned _ _ _ (search rules)

pub returns-in-Err : goal.returns-in-Err
returns-in-Err c = refused Returned _ _ (search rules)

pub returns : goal.returns
returns c = gives Returned _ _ (search rules)
