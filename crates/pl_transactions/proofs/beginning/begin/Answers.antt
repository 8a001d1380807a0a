use Rattle.std.proofs.Common.{sym, ap}
use Rattle.pl_command.proofs.of_pl_engine.Joins.{lawful}
use Rattle.pl_transactions.proofs.Quiet.{goes_as, goes_quietly}
use Rattle.pl_transactions.proofs.beginning.begin.Goals as goal
use Rattle.pl_transactions.specs.Before.{told_of_begin}
use Rattle.pl_transactions.specs.State.{session_at}
use Rattle.pl_command.specs.pl_world.Sessions.{begins}

pub returns-in-Idle : goal.returns-in-Idle
returns-in-Idle g c = goes_quietly (lawful g.P.Port g.met.P.Port.none g.met.P.Port.joins g.met.P.Port.rises) _ _ c.open.result c.open.new.transaction c.args.engine.now c.open.new.engine c.args.port.now c.requires.fits c.open.ensures

pub returns-in-Failed : goal.returns-in-Failed
returns-in-Failed g c =
    let s = session_at c.args.transaction.now c.args.engine.now in
    goes_as g.P.Port _ _ _ _ c.refuse.result c.refuse.new.transaction c.args.engine.now c.args.engine.now c.args.port.now c.args.port.now (ap (λ m. begins c.args.tag m s) (sym c.in-Failed.is)) (ap told_of_begin (sym c.in-Failed.is))
    (goes_quietly (lawful g.P.Port g.met.P.Port.none g.met.P.Port.joins g.met.P.Port.rises) _ _ c.refuse.result c.refuse.new.transaction c.args.engine.now c.args.engine.now c.args.port.now c.requires.fits c.refuse.ensures)
