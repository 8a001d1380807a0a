use Rattle.std.proofs.Common.{arith, refl}
use Rattle.pl_flow.proofs.of_pl_engine.Joins.{acted, before, lawful, refused}
use Rattle.pl_flow.specs.pl_engine.Handling.{kept_at}
use Rattle.pl_flow.proofs.Overs.{ran_on, ran_stopped}
use Rattle.pl_handlers.proofs.Handled.{handler_here}
use Rattle.pl_conditions.specs.pl_world.Blocks.{handled_end}
use Rattle.pl_conditions.specs.pl_world.Statements.{runner_for}
use Rattle.pl_flow.specs.pl_engine.Texts.{do_bodies}
use Rattle.pl_handlers.proofs.catching.handle.Goals as goal

pub returns-in_err-begin_handler-clause-is : goal.returns-in_err-begin_handler-clause-is
returns-in_err-begin_handler-clause-is g c =
    let law = lawful g.P.Port g.met.P.Port.none g.met.P.Port.joins g.met.P.Port.rises in
    let r = runner_for do_bodies c.args.runner.now.room in
    refused _ _ _ c.from_residual.ensures (before law refl)

pub all-requires-clause-room : goal.all-requires-clause-room
all-requires-clause-room g c =
    let law = lawful g.P.Port g.met.P.Port.none g.met.P.Port.joins g.met.P.Port.rises in
    let r = runner_for do_bodies c.args.runner.now.room in
    let here = handler_here law r c.args.label c.args.statements.now c.args.f (kept_at c.args.mark.at c.args.engine.now) c.args.engine.now c.begin_handler.new.self c.args.port.now c.requires.fits c.in_ok-begin_handler.ensures.is in
    let spent = here.told.spent in
    omega (arith, spent, c.requires.room)

pub all-requires-clause-fits : goal.all-requires-clause-fits
all-requires-clause-fits g c =
    let law = lawful g.P.Port g.met.P.Port.none g.met.P.Port.joins g.met.P.Port.rises in
    let r = runner_for do_bodies c.args.runner.now.room in
    let here = handler_here law r c.args.label c.args.statements.now c.args.f (kept_at c.args.mark.at c.args.engine.now) c.args.engine.now c.begin_handler.new.self c.args.port.now c.requires.fits c.in_ok-begin_handler.ensures.is in
    here.told.fits

pub returns-in_err-end-clause-is : goal.returns-in_err-end-clause-is
returns-in_err-end-clause-is g c =
    let law = lawful g.P.Port g.met.P.Port.none g.met.P.Port.joins g.met.P.Port.rises in
    let r = runner_for do_bodies c.args.runner.now.room in
    let here = handler_here law r c.args.label c.args.statements.now c.args.f (kept_at c.args.mark.at c.args.engine.now) c.args.engine.now c.begin_handler.new.self c.args.port.now c.requires.fits c.in_ok-begin_handler.ensures.is in
    refused c.all.new.engine _ c.in_err-end.field-0.0 c.from_residual-in_err-end.ensures (ran_stopped law handled_end here c.in_err-end.ensures.is)

pub returns-clause-is : goal.returns-clause-is
returns-clause-is g c =
    let law = lawful g.P.Port g.met.P.Port.none g.met.P.Port.joins g.met.P.Port.rises in
    let r = runner_for do_bodies c.args.runner.now.room in
    let here = handler_here law r c.args.label c.args.statements.now c.args.f (kept_at c.args.mark.at c.args.engine.now) c.args.engine.now c.begin_handler.new.self c.args.port.now c.requires.fits c.in_ok-begin_handler.ensures.is in
    acted law (ran_on law handled_end here c.in_ok-end.end c.in_ok-end.ensures.is) (c.end_handler.ensures.is c.in_ok-end.end)
