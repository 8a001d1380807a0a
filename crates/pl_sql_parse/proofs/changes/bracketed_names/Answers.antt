use Rattle.std.proofs.Common.{rules}
use Rattle.pl_sql_parse.specs.Grammar.{BracketedNames}
use Rattle.pl_sql_parse.proofs.Step.{gives, refused}
use Rattle.pl_sql_parse.proofs.changes.bracketed_names.Goals as goal

pub returns-in-Err : goal.returns-in-Err
returns-in-Err c = refused BracketedNames _ _ (search rules)

pub returns-in-Err-names : goal.returns-in-Err-names
returns-in-Err-names c = refused BracketedNames _ _ (search rules)

pub returns-in-Err-expect : goal.returns-in-Err-expect
returns-in-Err-expect c = refused BracketedNames _ _ (search rules)

pub returns : goal.returns
returns c = gives BracketedNames _ _ (search rules)
