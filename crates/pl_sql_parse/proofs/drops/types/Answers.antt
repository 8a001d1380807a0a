use Rattle.std.proofs.Common.{rules}
use Rattle.pl_sql_parse.specs.Grammar.{Types}
use Rattle.pl_sql_parse.proofs.Step.{gives, refused}
use Rattle.pl_sql_parse.proofs.drops.types.Goals as goal

pub returns-then-not-eat : goal.returns-then-not-eat
returns-then-not-eat c = gives Types _ _ (search rules)

pub returns-then-eat : goal.returns-then-eat
returns-then-eat c = gives Types _ _ (search rules)

pub returns-in-Err : goal.returns-in-Err
returns-in-Err c = refused Types _ _ (search rules)

pub returns-in-Err-expect : goal.returns-in-Err-expect
returns-in-Err-expect c = refused Types _ _ (search rules)

pub returns : goal.returns
returns c = gives Types _ _ (search rules)
