use Rattle.pl_bodies.specs.declared.statement.Block.{out-Block}
use Rattle.pl_flow.proofs.of_pl_engine.Joins.{lawful, refused, before}
use Rattle.pl_flow.proofs.Overs.{block_done, block_here, ran_on, ran_stopped}
use Rattle.pl_handlers.proofs.blocks.block.Goals as goal
use Rattle.pl_conditions.specs.pl_world.Blocks.{block_left}
use Rattle.pl_conditions.specs.pl_world.Statements.{runner_for}
use Rattle.std.proofs.Common.{refl, arith}
use Rattle.pl_flow.specs.pl_engine.Texts.{do_bodies}

pub returns-in_err-open-clause-is : goal.returns-in_err-open-clause-is
returns-in_err-open-clause-is g c =
    let law = lawful g.P.Port g.met.P.Port.none g.met.P.Port.joins g.met.P.Port.rises in
    let r = runner_for do_bodies c.args.runner.now.room in
    refused _ _ _ c.from_residual.ensures (before law refl)

pub returns-in_err-end-clause-is : goal.returns-in_err-end-clause-is
returns-in_err-end-clause-is g c =
    let law = lawful g.P.Port g.met.P.Port.none g.met.P.Port.joins g.met.P.Port.rises in
    let r = runner_for do_bodies c.args.runner.now.room in
    let here = block_here law r c.args.at c.args.block.now c.args.engine.now c.open.new.self c.args.port.now c.requires.fits c.in_ok-open.ensures.is in
    refused c.within.new.engine _ c.in_err-end.field-0.0 c.from_residual-in_err-end.ensures (ran_stopped law (block_left (out-Block c.args.block.now).label) here c.in_err-end.ensures.is)

pub returns-clause-is : goal.returns-clause-is
returns-clause-is g c =
    let law = lawful g.P.Port g.met.P.Port.none g.met.P.Port.joins g.met.P.Port.rises in
    let r = runner_for do_bodies c.args.runner.now.room in
    let here = block_here law r c.args.at c.args.block.now c.args.engine.now c.open.new.self c.args.port.now c.requires.fits c.in_ok-open.ensures.is in
    block_done law r c.args.at c.args.block.now c.close.new.self c.in_ok-end.end _ (ran_on law (block_left (out-Block c.args.block.now).label) here c.in_ok-end.end c.in_ok-end.ensures.is) c.close.ensures.is c.block_end.ensures

pub within-requires-clause-room : goal.within-requires-clause-room
within-requires-clause-room g c =
    let law = lawful g.P.Port g.met.P.Port.none g.met.P.Port.joins g.met.P.Port.rises in
    let r = runner_for do_bodies c.args.runner.now.room in
    let here = block_here law r c.args.at c.args.block.now c.args.engine.now c.open.new.self c.args.port.now c.requires.fits c.in_ok-open.ensures.is in
    let spent = here.told.spent in
    omega (arith, spent, c.requires.room)

pub within-requires-clause-fits : goal.within-requires-clause-fits
within-requires-clause-fits g c =
    let law = lawful g.P.Port g.met.P.Port.none g.met.P.Port.joins g.met.P.Port.rises in
    let r = runner_for do_bodies c.args.runner.now.room in
    let here = block_here law r c.args.at c.args.block.now c.args.engine.now c.open.new.self c.args.port.now c.requires.fits c.in_ok-open.ensures.is in
    here.told.fits
