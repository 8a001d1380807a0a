use Rattle.std.proofs.Common.{rules}
use Rattle.pl_sql_parse.specs.Grammar.{LanguageName}
use Rattle.pl_sql_parse.proofs.Step.{gives, reads_rule, refused}
use Rattle.pl_sql_parse.proofs.routines.language_name.Goals as goal

pub returns-in-Err : goal.returns-in-Err
returns-in-Err c = refused LanguageName _ _ (search rules)

pub returns-then-sees : goal.returns-then-sees
returns-then-sees c = gives LanguageName _ _ (search rules)

pub returns : goal.returns
returns c = reads_rule LanguageName _ _ _ (search rules)
