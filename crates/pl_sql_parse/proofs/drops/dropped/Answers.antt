use Rattle.std.proofs.Common.{rules}
use Rattle.pl_sql_parse.specs.Grammar.{Dropped}
use Rattle.pl_sql_parse.proofs.Step.{gives, refused}
use Rattle.pl_sql_parse.proofs.drops.dropped.Goals as goal

pub returns-in-Err : goal.returns-in-Err
returns-in-Err c = refused Dropped _ _ (search rules)

pub returns-in-Err-name : goal.returns-in-Err-name
returns-in-Err-name c = refused Dropped _ _ (search rules)

pub returns-in-Err-types : goal.returns-in-Err-types
returns-in-Err-types c = refused Dropped _ _ (search rules)

pub returns : goal.returns
returns c = gives Dropped _ _ (search rules)
