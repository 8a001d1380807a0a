use Rattle.std.proofs.Common.{ap, refl, sym}
use Rattle.pl_command.proofs.of_pl_engine.Joins.{lawful}
use Rattle.pl_transactions.proofs.Quiet.{goes_as, goes_quietly}
use Rattle.pl_transactions.proofs.ending.end.Goals as goal
use Rattle.pl_transactions.specs.Before.{told_of_end}
use Rattle.pl_transactions.specs.State.{session_at}
use Rattle.pl_command.specs.pl_world.Sessions.{commits}

pub returns-in-Idle : goal.returns-in-Idle
returns-in-Idle g c =
    goes_as g.P.Port _ _ _ _ c.end_none.result c.args.transaction.now c.args.engine.now c.end_none.new.engine c.args.port.now c.end_none.new.port (ap (λ m. commits m (session_at c.args.transaction.now c.args.engine.now)) (sym c.in-Idle.is)) refl c.end_none.ensures

pub returns-in-Failed : goal.returns-in-Failed
returns-in-Failed g c =
    goes_as g.P.Port _ _ _ _ c.undo_block.result c.undo_block.new.transaction c.args.engine.now c.undo_block.new.engine c.args.port.now c.args.port.now (ap (λ m. commits m (session_at c.args.transaction.now c.args.engine.now)) (sym c.in-Failed.is)) (ap told_of_end (sym c.in-Failed.is))
    (goes_quietly (lawful g.P.Port g.met.P.Port.none g.met.P.Port.joins g.met.P.Port.rises) _ _ c.undo_block.result c.undo_block.new.transaction c.args.engine.now c.undo_block.new.engine c.args.port.now c.requires.fits c.undo_block.ensures)
