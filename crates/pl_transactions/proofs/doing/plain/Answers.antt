use Rattle.std.proofs.Common.{ap, sym}
use Rattle.pl_command.proofs.of_pl_engine.Joins.{lawful}
use Rattle.pl_command.specs.pl_engine.Texts.{do_bodies}
use Rattle.pl_transactions.proofs.Quiet.{goes_as, goes_quietly}
use Rattle.pl_transactions.proofs.doing.plain.Goals as goal
use Rattle.pl_transactions.specs.Before.{told_of_plain}
use Rattle.pl_transactions.specs.State.{session_at}
use Rattle.pl_command.specs.pl_world.Sessions.{does_plain}

pub returns-in-Failed : goal.returns-in-Failed
returns-in-Failed g c =
    let s = session_at c.args.transaction.now c.args.engine.now in
    goes_as g.P.Port _ _ _ _ c.refuse.result c.refuse.new.transaction c.args.engine.now c.args.engine.now c.args.port.now c.args.port.now
    (ap (λ m. does_plain do_bodies c.args.runner.now.room c.args.command m s) (sym c.in-Failed.is)) (ap (λ m. told_of_plain do_bodies c.args.runner.now.room c.args.command m s) (sym c.in-Failed.is))
    (goes_quietly (lawful g.P.Port g.met.P.Port.none g.met.P.Port.joins g.met.P.Port.rises) _ _ c.refuse.result c.refuse.new.transaction c.args.engine.now c.args.engine.now c.args.port.now c.requires.fits c.refuse.ensures)
