use Rattle.pl_control.proofs.of_pl_engine.Joins.{acted, answered, lawful}
use Rattle.pl_control.specs.pl_engine.Engines.{world}
use Rattle.pl_control.specs.pl_engine.Texts.{do_bodies}
use Rattle.pl_exec.proofs.Acts.{begun, of_call, of_change, of_transaction}
use Rattle.pl_exec.proofs.commands.command.Goals as goal
use Rattle.pl_world.specs.Statements.{command_form, runner_for}

pub returns-in-Query-clause-is : goal.returns-in-Query-clause-is
returns-in-Query-clause-is g c =
    let law = lawful g.P.Port g.met.P.Port.none g.met.P.Port.joins g.met.P.Port.rises in
    let r = runner_for do_bodies c.args.runner.now.room in
    let w = world c.args.engine.now in
    acted law (begun law (command_form r c.args.at c.args.c.now w) _ c.args.engine.now c.args.port.now c.requires.fits (of_change r c.args.at w c.in-Query.is)) c.raise-in-Query.ensures

pub returns-in-Begin-clause-is : goal.returns-in-Begin-clause-is
returns-in-Begin-clause-is g c =
    let law = lawful g.P.Port g.met.P.Port.none g.met.P.Port.joins g.met.P.Port.rises in
    let r = runner_for do_bodies c.args.runner.now.room in
    let w = world c.args.engine.now in
    acted law (begun law (command_form r c.args.at c.args.c.now w) _ c.args.engine.now c.args.port.now c.requires.fits (of_transaction r c.args.at w c.in-Begin.is)) c.raise.ensures

pub returns-in-Call-clause-is : goal.returns-in-Call-clause-is
returns-in-Call-clause-is g c =
    let law = lawful g.P.Port g.met.P.Port.none g.met.P.Port.joins g.met.P.Port.rises in
    let r = runner_for do_bodies c.args.runner.now.room in
    let w = world c.args.engine.now in
    answered law _ _ _ (begun law (command_form r c.args.at c.args.c.now w) _ c.args.engine.now c.args.port.now c.requires.fits
    (of_call r c.args.at w _ c.as_slice.result.now _ c.in-Call.is c.as_slice.ensures)) c.call.ensures.is
