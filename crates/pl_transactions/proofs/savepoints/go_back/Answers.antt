use Rattle.std.proofs.Common.{ap, sym}
use Rattle.pl_transactions.proofs.Quiet.{quietly_as}
use Rattle.pl_transactions.proofs.savepoints.go_back.Goals as goal
use Rattle.pl_transactions.specs.State.{is_block, session_at}
use Rattle.pl_command.specs.pl_world.Sessions.{goes_back}

pub returns-in-Idle : goal.returns-in-Idle
returns-in-Idle c =
    quietly_as _ _ c.refuse.result c.refuse.new.transaction c.args.engine.now c.args.engine.now (ap (λ m. goes_back c.args.name m (session_at c.args.transaction.now c.args.engine.now)) (sym c.in-Idle.is)) c.refuse.ensures

pub return_to-requires-clause-is : goal.return_to-requires-clause-is
return_to-requires-clause-is c = ap is_block c.in-Block.is

pub return_to-requires-in-Failed-clause-is : goal.return_to-requires-in-Failed-clause-is
return_to-requires-in-Failed-clause-is c = ap is_block c.in-Failed.is
