use Rattle.std.proofs.Common.{◌-◌}
use Rattle.pl_control.proofs.of_pl_engine.Joins.{acted, answered, becomes, lawful}
use Rattle.pl_control.specs.pl_engine.Engines.{world}
use Rattle.pl_control.specs.pl_engine.Texts.{do_bodies}
use Rattle.pl_exec.proofs.Within.{behind_step, of_body, without_step}
use Rattle.pl_exec.proofs.tasks.body.Goals as goal
use Rattle.pl_world.specs.Running.{body}
use Rattle.pl_world.specs.Statements.{runner_for}

pub returns-then-not-take_step-clause-is : goal.returns-then-not-take_step-clause-is
returns-then-not-take_step-clause-is g c =
    let law = lawful g.P.Port g.met.P.Port.none g.met.P.Port.joins g.met.P.Port.rises in
    acted law (without_step law c.args.room (body c.args.b.now) c.args.engine.now c.take_step.new.self c.args.port.now c.requires.fits c.if-not-take_step.ensures.took) c.raise.ensures

pub returns-clause-is : goal.returns-clause-is
returns-clause-is g c =
    let law = lawful g.P.Port g.met.P.Port.none g.met.P.Port.joins g.met.P.Port.rises in
    let here = behind_step law c.args.room (body c.args.b.now) c.args.engine.now c.take_step.new.self c.args.port.now c.requires.fits c.requires.room c.if-not-take_step.ensures.took in
    answered law _ _ _ (becomes law here (of_body (runner_for do_bodies (c.args.room - 1)) c.args.b.now (world c.take_step.new.self))) c.block.ensures.is
