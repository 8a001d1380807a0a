use Rattle.std.proofs.Common.{rules}
use Rattle.pl_sql_parse.specs.Grammar.{NewValue}
use Rattle.pl_sql_parse.proofs.Step.{gives, refused}
use Rattle.pl_sql_parse.proofs.changes.new_value.Goals as goal

pub returns-then-eat : goal.returns-then-eat
returns-then-eat c = gives NewValue _ _ (search rules)

pub returns-in-Err : goal.returns-in-Err
returns-in-Err c = refused NewValue _ _ (search rules)

pub returns : goal.returns
returns c = gives NewValue _ _ (search rules)
