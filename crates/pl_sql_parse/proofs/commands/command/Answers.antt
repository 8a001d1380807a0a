use Rattle.std.proofs.Common.{rules}
use Rattle.pl_sql_parse.specs.Grammar.{Command}
use Rattle.pl_sql_parse.proofs.Step.{gives, reads_rule, refused}
use Rattle.pl_sql_parse.proofs.commands.command.Goals as goal

pub returns-then-eat : goal.returns-then-eat
returns-then-eat c = reads_rule Command _ _ _ (search rules)

pub returns-then-eat-2 : goal.returns-then-eat-2
returns-then-eat-2 c = reads_rule Command _ _ _ (search rules)

pub returns-then-eat-3 : goal.returns-then-eat-3
returns-then-eat-3 c = reads_rule Command _ _ _ (search rules)

pub returns-then-eat-4 : goal.returns-then-eat-4
returns-then-eat-4 c = reads_rule Command _ _ _ (search rules)

pub returns-then-eat-5 : goal.returns-then-eat-5
returns-then-eat-5 c = reads_rule Command _ _ _ (search rules)

pub returns-in-Err : goal.returns-in-Err
returns-in-Err c = refused Command _ _ (search rules)

pub returns-then-sees : goal.returns-then-sees
returns-then-sees c = gives Command _ _ (search rules)

pub returns : goal.returns
returns c = reads_rule Command _ _ _ (search rules)
