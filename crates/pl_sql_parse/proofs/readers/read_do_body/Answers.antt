use Rattle.std.proofs.Common.{rules}
use Rattle.pl_sql_parse.specs.Grammar.{Do}
use Rattle.pl_sql_parse.proofs.Step.{gives, refused}
use Rattle.pl_sql_parse.proofs.readers.read_do_body.Goals as goal

pub returns-in-Err : goal.returns-in-Err
returns-in-Err c = refused Do _ _ (search rules)

pub returns-in-Err-text : goal.returns-in-Err-text
returns-in-Err-text c = refused Do _ _ (search rules)

pub returns-then-eat : goal.returns-then-eat
returns-then-eat c = gives Do _ _ (search rules)

pub returns-in-Err-text-2 : goal.returns-in-Err-text-2
returns-in-Err-text-2 c = refused Do _ _ (search rules)

pub returns-in-Err-name : goal.returns-in-Err-name
returns-in-Err-name c = refused Do _ _ (search rules)

pub returns-then-eat-2 : goal.returns-then-eat-2
returns-then-eat-2 c = gives Do _ _ (search rules)

pub returns : goal.returns
returns c = gives Do _ _ (search rules)
