use Rattle.std.proofs.Common.{ap, sym}
use Rattle.pl_transactions.proofs.Quiet.{quietly_as}
use Rattle.pl_transactions.proofs.savepoints.release.Goals as goal
use Rattle.pl_transactions.specs.State.{session_at}
use Rattle.pl_command.specs.pl_world.Sessions.{releases}

pub returns-in-Idle : goal.returns-in-Idle
returns-in-Idle c =
    quietly_as _ _ c.refuse.result c.refuse.new.transaction c.args.engine.now c.args.engine.now (ap (λ m. releases c.args.name m (session_at c.args.transaction.now c.args.engine.now)) (sym c.in-Idle.is)) c.refuse.ensures

pub returns-in-Failed : goal.returns-in-Failed
returns-in-Failed c =
    quietly_as _ _ c.refuse-in-Failed.result c.refuse-in-Failed.new.transaction c.args.engine.now c.args.engine.now (ap (λ m. releases c.args.name m (session_at c.args.transaction.now c.args.engine.now)) (sym c.in-Failed.is)) c.refuse-in-Failed.ensures
