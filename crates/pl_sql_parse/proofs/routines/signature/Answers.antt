use Rattle.std.proofs.Common.{rules}
use Rattle.pl_sql_parse.specs.Grammar.{Signature}
use Rattle.pl_sql_parse.proofs.Step.{gives, refused}
use Rattle.pl_sql_parse.proofs.routines.signature.Goals as goal

pub returns-in-Err : goal.returns-in-Err
returns-in-Err c = refused Signature _ _ (search rules)

pub returns-in-Err-expect : goal.returns-in-Err-expect
returns-in-Err-expect c = refused Signature _ _ (search rules)

pub returns-in-Err-params : goal.returns-in-Err-params
returns-in-Err-params c = refused Signature _ _ (search rules)

pub returns : goal.returns
returns c = gives Signature _ _ (search rules)
