use Rattle.std.proofs.Common.{rules}
use Rattle.pl_sql_parse.specs.Grammar.{Work}
use Rattle.pl_sql_parse.proofs.Step.{gives}
use Rattle.pl_sql_parse.proofs.commands.work.Goals as goal

pub returns-then-not-eat : goal.returns-then-not-eat
returns-then-not-eat c = gives Work _ _ (search rules)

pub returns-else-not-eat : goal.returns-else-not-eat
returns-else-not-eat c = gives Work _ _ (search rules)
