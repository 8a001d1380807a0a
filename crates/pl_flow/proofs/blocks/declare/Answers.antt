use Rattle.pl_engine.proofs.Joins.{lawful, refused}
use Rattle.pl_flow.proofs.Lists.{declared_end, declared_here, declared_next, next_off, next_on, next_stopped}
use Rattle.pl_flow.proofs.blocks.declare.Goals as goal
use Rattle.pl_engine.specs.pl_world.Statements.{runner_for}
use Rattle.std.proofs.Common.{◌∙◌, true, false}
use Rattle.pl_engine.specs.Texts.{do_bodies}

pub returns-in_err-other-clause-is : goal.returns-in_err-other-clause-is
returns-in_err-other-clause-is g c =
    let law = lawful g.P.Port g.met.P.Port.none g.met.P.Port.joins g.met.P.Port.rises in
    let r = runner_for do_bodies c.args.runner.now.room in
    let here = declared_here r c.args.at law c.args.declarations.now _ c.loop-declaration.invariant.way _ c.loop-declaration-test.true c.declaration-item.is in
    refused c.ask.new.engine _ c.in_err-other.field-0.0 c.from_residual.ensures (next_stopped law (declared_next r c.args.at _) here c.in_err-other.ensures.is)

pub returns-in_default : goal.returns-in_default
returns-in_default g c =
    let law = lawful g.P.Port g.met.P.Port.none g.met.P.Port.joins g.met.P.Port.rises in
    let r = runner_for do_bodies c.args.runner.now.room in
    let here = declared_here r c.args.at law c.args.declarations.now _ c.loop-declaration.invariant.way _ c.loop-declaration-test.true c.declaration-item.is in
    record {
      is = next_off law (declared_next r c.args.at _) here c.in_ok-other.other c.in_ok-other.ensures.is c.in_default.not-Next;
      keeps = c.in_ok-other.ensures.keeps ∙ c.loop-declaration.invariant.keeps;
    }

pub loop-declaration-preserved : goal.loop-declaration-preserved
loop-declaration-preserved g c =
    let law = lawful g.P.Port g.met.P.Port.none g.met.P.Port.joins g.met.P.Port.rises in
    let r = runner_for do_bodies c.args.runner.now.room in
    let here = declared_here r c.args.at law c.args.declarations.now _ c.loop-declaration.invariant.way _ c.loop-declaration-test.true c.declaration-item.is in
    record {
      way = next_on law (declared_next r c.args.at _) here c.in_ok-other.other c.in_ok-other.ensures.is c.in-Next.is;
      keeps = c.in_ok-other.ensures.keeps ∙ c.loop-declaration.invariant.keeps;
    }

pub returns-clause-is : goal.returns-clause-is
returns-clause-is g c =
    let law = lawful g.P.Port g.met.P.Port.none g.met.P.Port.joins g.met.P.Port.rises in
    let r = runner_for do_bodies c.args.runner.now.room in
    declared_end r c.args.at law c.args.declarations.now _ c.loop-declaration.invariant.way c.loop-declaration-test.false
