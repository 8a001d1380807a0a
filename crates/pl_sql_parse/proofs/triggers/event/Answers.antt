use Rattle.std.proofs.Common.{rules}
use Rattle.pl_sql_parse.specs.Grammar.{Event}
use Rattle.pl_sql_parse.proofs.Step.{gives, refused}
use Rattle.pl_sql_parse.proofs.triggers.event.Goals as goal

pub returns-then-eat : goal.returns-then-eat
returns-then-eat c = gives Event _ _ (search rules)

pub returns-then-eat-2 : goal.returns-then-eat-2
returns-then-eat-2 c = gives Event _ _ (search rules)

pub returns-in-Err : goal.returns-in-Err
returns-in-Err c = refused Event _ _ (search rules)

pub returns : goal.returns
returns c = gives Event _ _ (search rules)
