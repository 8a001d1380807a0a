use Rattle.pl_sql_parse.proofs.OneCommand.{one_command}
use Rattle.pl_sql_parse.proofs.parse.one_command.Goals as goal

pub returns : goal.returns
returns c = record { is = one_command }
