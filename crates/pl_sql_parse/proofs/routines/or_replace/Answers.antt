use Rattle.std.proofs.Common.{rules}
use Rattle.pl_sql_parse.specs.Grammar.{OrReplace}
use Rattle.pl_sql_parse.proofs.Step.{gives, refused}
use Rattle.pl_sql_parse.proofs.routines.or_replace.Goals as goal

pub returns-then-not-eat : goal.returns-then-not-eat
returns-then-not-eat c = gives OrReplace _ _ (search rules)

pub returns-in-Err : goal.returns-in-Err
returns-in-Err c = refused OrReplace _ _ (search rules)

pub returns : goal.returns
returns c = gives OrReplace _ _ (search rules)
