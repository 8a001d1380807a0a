use Rattle.pl_engine.proofs.Joins.{lawful, refused, acted, before}
use Rattle.pl_flow.proofs.Overs.{ran_on, ran_stopped}
use Rattle.pl_loops.proofs.Overs.{over_here}
use Rattle.pl_loops.proofs.numbers.over.Goals as goal
use Rattle.pl_loops.specs.Ranges.{numbers_in}
use Rattle.pl_engine.specs.pl_world.Control.{for_left}
use Rattle.pl_engine.specs.pl_world.Statements.{runner_for}
use Rattle.std.proofs.Common.{refl, arith}
use Rattle.pl_engine.specs.Texts.{do_bodies}

pub returns-in_err-open-clause-is : goal.returns-in_err-open-clause-is
returns-in_err-open-clause-is g c =
    let law = lawful g.P.Port g.met.P.Port.none g.met.P.Port.joins g.met.P.Port.rises in
    let r = runner_for do_bodies c.args.runner.now.room in
    refused _ _ _ c.from_residual.ensures (before law refl)

pub returns-in_err-declare-clause-is : goal.returns-in_err-declare-clause-is
returns-in_err-declare-clause-is g c =
    let law = lawful g.P.Port g.met.P.Port.none g.met.P.Port.joins g.met.P.Port.rises in
    let r = runner_for do_bodies c.args.runner.now.room in
    refused _ _ _ c.from_residual-in_err-declare.ensures (before law refl)

pub returns-in_err-end-clause-is : goal.returns-in_err-end-clause-is
returns-in_err-end-clause-is g c =
    let law = lawful g.P.Port g.met.P.Port.none g.met.P.Port.joins g.met.P.Port.rises in
    let r = runner_for do_bodies c.args.runner.now.room in
    let here = over_here law r c.args.at c.args.numbers.now.label c.args.numbers.now.variable c.args.numbers.now.body.now (numbers_in c.args.range) c.args.engine.now c.open.new.self c.declare.new.self c.args.port.now c.newest_place-to.result c.requires.fits c.in_ok-open.ensures.is c.in_ok-declare.ensures.is c.newest_place-to.ensures in
    refused c.each.new.engine _ c.in_err-end.field-0.0 c.from_residual-in_err-end.ensures (ran_stopped law (for_left (numbers_in c.args.range)) here c.in_err-end.ensures.is)

pub returns-clause-is : goal.returns-clause-is
returns-clause-is g c =
    let law = lawful g.P.Port g.met.P.Port.none g.met.P.Port.joins g.met.P.Port.rises in
    let r = runner_for do_bodies c.args.runner.now.room in
    let here = over_here law r c.args.at c.args.numbers.now.label c.args.numbers.now.variable c.args.numbers.now.body.now (numbers_in c.args.range) c.args.engine.now c.open.new.self c.declare.new.self c.args.port.now c.newest_place-to.result c.requires.fits c.in_ok-open.ensures.is c.in_ok-declare.ensures.is c.newest_place-to.ensures in
    acted law (ran_on law (for_left (numbers_in c.args.range)) here c.in_ok-end.end c.in_ok-end.ensures.is) c.leave.ensures.is

pub each-requires-clause-room : goal.each-requires-clause-room
each-requires-clause-room g c =
    let law = lawful g.P.Port g.met.P.Port.none g.met.P.Port.joins g.met.P.Port.rises in
    let r = runner_for do_bodies c.args.runner.now.room in
    let here = over_here law r c.args.at c.args.numbers.now.label c.args.numbers.now.variable c.args.numbers.now.body.now (numbers_in c.args.range) c.args.engine.now c.open.new.self c.declare.new.self c.args.port.now c.newest_place-to.result c.requires.fits c.in_ok-open.ensures.is c.in_ok-declare.ensures.is c.newest_place-to.ensures in
    let spent = here.told.spent in
    omega (arith, spent, c.requires.room)

pub each-requires-clause-fits : goal.each-requires-clause-fits
each-requires-clause-fits g c =
    let law = lawful g.P.Port g.met.P.Port.none g.met.P.Port.joins g.met.P.Port.rises in
    let r = runner_for do_bodies c.args.runner.now.room in
    let here = over_here law r c.args.at c.args.numbers.now.label c.args.numbers.now.variable c.args.numbers.now.body.now (numbers_in c.args.range) c.args.engine.now c.open.new.self c.declare.new.self c.args.port.now c.newest_place-to.result c.requires.fits c.in_ok-open.ensures.is c.in_ok-declare.ensures.is c.newest_place-to.ensures in
    here.told.fits
