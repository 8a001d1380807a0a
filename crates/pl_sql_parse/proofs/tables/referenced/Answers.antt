use Rattle.std.proofs.Common.{rules}
use Rattle.pl_sql_parse.specs.Grammar.{Referenced}
use Rattle.pl_sql_parse.proofs.Step.{gives, refused}
use Rattle.pl_sql_parse.proofs.tables.referenced.Goals as goal

pub returns-in-Err : goal.returns-in-Err
returns-in-Err c = refused Referenced _ _ (search rules)

pub returns-then-not-eat : goal.returns-then-not-eat
returns-then-not-eat c = gives Referenced _ _ (search rules)

pub returns-in-Err-name : goal.returns-in-Err-name
returns-in-Err-name c = refused Referenced _ _ (search rules)

pub returns-in-Err-expect : goal.returns-in-Err-expect
returns-in-Err-expect c = refused Referenced _ _ (search rules)

pub returns : goal.returns
returns c = gives Referenced _ _ (search rules)
