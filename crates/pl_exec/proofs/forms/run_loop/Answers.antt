use Rattle.pl_bodies.specs.declared.statement.Loop.{out-Loop}
use Rattle.pl_control.proofs.of_pl_engine.Joins.{acted, lawful}
use Rattle.pl_control.specs.pl_engine.Engines.{world}
use Rattle.pl_control.specs.pl_engine.Texts.{do_bodies}
use Rattle.pl_exec.proofs.Acts.{begun, of_rows}
use Rattle.pl_exec.proofs.forms.run_loop.Goals as goal
use Rattle.pl_world.specs.Statements.{one_loop, runner_for}

pub returns-in-Rows-clause-is : goal.returns-in-Rows-clause-is
returns-in-Rows-clause-is g c =
    let law = lawful g.P.Port g.met.P.Port.none g.met.P.Port.joins g.met.P.Port.rises in
    let r = runner_for do_bodies c.args.runner.now.room in
    let w = world c.args.engine.now in
    let l = c.args.l.now in
    acted law (begun law (one_loop r c.args.at l w) _ c.args.engine.now c.args.port.now c.requires.fits
    (of_rows r c.args.at (out-Loop l).label (out-Loop l).statements w c.in-Rows.is)) c.raise.ensures
