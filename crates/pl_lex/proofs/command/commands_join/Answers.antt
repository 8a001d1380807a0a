use Rattle.pl_lex.proofs.Joins.{commands_are_cut}
use Rattle.pl_lex.proofs.command.commands_join.Goals as goal

pub returns : goal.returns
returns c = λ text pieces all. commands_are_cut text pieces all
