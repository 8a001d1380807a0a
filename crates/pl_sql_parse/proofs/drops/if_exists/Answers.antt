use Rattle.std.proofs.Common.{rules}
use Rattle.pl_sql_parse.specs.Grammar.{IfExists}
use Rattle.pl_sql_parse.proofs.Step.{gives, refused}
use Rattle.pl_sql_parse.proofs.drops.if_exists.Goals as goal

pub returns-then-not-eat : goal.returns-then-not-eat
returns-then-not-eat c = gives IfExists _ _ (search rules)

pub returns-in-Err : goal.returns-in-Err
returns-in-Err c = refused IfExists _ _ (search rules)

pub returns : goal.returns
returns c = gives IfExists _ _ (search rules)
