use Rattle.std.proofs.Common.{rules}
use Rattle.pl_sql_parse.specs.Grammar.{Timing}
use Rattle.pl_sql_parse.proofs.Step.{gives, refused}
use Rattle.pl_sql_parse.proofs.triggers.timing.Goals as goal

pub returns-then-eat : goal.returns-then-eat
returns-then-eat c = gives Timing _ _ (search rules)

pub returns-in-Err : goal.returns-in-Err
returns-in-Err c = refused Timing _ _ (search rules)

pub returns : goal.returns
returns c = gives Timing _ _ (search rules)
