use Rattle.pl_engine.proofs.Joins.{lawful, refused, acted, step, stepless}
use Rattle.pl_loops.proofs.Repeats.{turn_done, turn_start, turn_stopped, turned}
use Rattle.pl_loops.proofs.turns.turn.Goals as goal
use Rattle.pl_engine.specs.pl_world.Statements.{runner_for}
use Rattle.pl_engine.specs.Texts.{do_bodies}

pub returns-then-not-take_step-clause-is : goal.returns-then-not-take_step-clause-is
returns-then-not-take_step-clause-is g c =
    let law = lawful g.P.Port g.met.P.Port.none g.met.P.Port.joins g.met.P.Port.rises in
    let r = runner_for do_bodies c.args.runner.now.room in
    acted law (stepless law c.args.at (turned r c.args.label.now c.args.body.now) (turn_start law r c.args.at c.args.label.now c.args.body.now c.args.engine.now c.args.port.now c.requires.fits) c.if-not-take_step.ensures.took) c.raise.ensures

pub returns-in_err-all-clause-is : goal.returns-in_err-all-clause-is
returns-in_err-all-clause-is g c =
    let law = lawful g.P.Port g.met.P.Port.none g.met.P.Port.joins g.met.P.Port.rises in
    let r = runner_for do_bodies c.args.runner.now.room in
    let here = step law c.args.at (turned r c.args.label.now c.args.body.now) (turn_start law r c.args.at c.args.label.now c.args.body.now c.args.engine.now c.args.port.now c.requires.fits) c.if-not-take_step.ensures.took in
    refused c.all.new.engine _ c.in_err-all.field-0.0 c.from_residual.ensures (turn_stopped law r c.args.at c.args.label.now c.args.body.now here c.in_err-all.ensures.is)

pub returns-clause-is : goal.returns-clause-is
returns-clause-is g c =
    let law = lawful g.P.Port g.met.P.Port.none g.met.P.Port.joins g.met.P.Port.rises in
    let r = runner_for do_bodies c.args.runner.now.room in
    let here = step law c.args.at (turned r c.args.label.now c.args.body.now) (turn_start law r c.args.at c.args.label.now c.args.body.now c.args.engine.now c.args.port.now c.requires.fits) c.if-not-take_step.ensures.took in
    turn_done law r c.args.at c.args.label.now c.args.body.now here _ _ c.in_ok-all.ensures.is c.turn_end.ensures
