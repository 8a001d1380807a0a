use Rattle.std.proofs.Common.{rules}
use Rattle.pl_sql_parse.specs.Grammar.{IfNotExists}
use Rattle.pl_sql_parse.proofs.Step.{gives, refused}
use Rattle.pl_sql_parse.proofs.tables.if_not_exists.Goals as goal

pub returns-then-not-eat : goal.returns-then-not-eat
returns-then-not-eat c = gives IfNotExists _ _ (search rules)

pub returns-in-Err : goal.returns-in-Err
returns-in-Err c = refused IfNotExists _ _ (search rules)

pub returns-in-Err-expect : goal.returns-in-Err-expect
returns-in-Err-expect c = refused IfNotExists _ _ (search rules)

pub returns : goal.returns
returns c = gives IfNotExists _ _ (search rules)
