use Rattle.pl_engine.specs.Engines.{world}
use Rattle.pl_engine.proofs.Joins.{lawful, refused, answered}
use Rattle.pl_flow.proofs.Asked.{asked_off, asked_on, asked_stopped}
use Rattle.pl_loops.proofs.Repeats.{later, loop_start, rounds, while_end, while_here}
use Rattle.pl_loops.proofs.loops.while_true.Goals as goal
use Rattle.pl_loops.specs.Turns.{going_of}
use Rattle.pl_engine.specs.pl_world.Control.{tested}
use Rattle.pl_engine.specs.pl_world.Statements.{runner_for}
use Rattle.std.proofs.Common.{◌∙◌, refl, rules, true, false, Some}
use Rattle.pl_engine.specs.Texts.{do_bodies}

pub loop-turn-init : goal.loop-turn-init
loop-turn-init g c =
    let law = lawful g.P.Port g.met.P.Port.none g.met.P.Port.joins g.met.P.Port.rises in
    let r = runner_for do_bodies c.args.runner.now.room in
    record {
      way = loop_start r c.args.at c.args.label.now c.args.body.now law (tested r c.args.at c.args.condition.now) c.args.engine.now c.args.port.now c.requires.fits;
      suits = c.new-quick.ensures (Some c.args.condition.now) c.args.body.now (world c.args.engine.now);
      keeps = refl;
    }

pub returns-in_err-end-clause-is : goal.returns-in_err-end-clause-is
returns-in_err-end-clause-is g c =
    let law = lawful g.P.Port g.met.P.Port.none g.met.P.Port.joins g.met.P.Port.rises in
    let r = runner_for do_bodies c.args.runner.now.room in
    let here = while_here r c.args.at c.args.label.now c.args.condition.now c.args.body.now law c.args.runner.now.room _ c.loop-turn.invariant.way c.loop-turn-test.true in
    refused c.round_at_once.new.engine _ c.in_err-end.field-0.0 c.from_residual.ensures (asked_stopped law going_of (later (rounds r c.args.at c.args.label.now c.args.condition.now c.args.body.now _)) here c.in_err-end.ensures.is)

pub returns-in-Err-clause-is : goal.returns-in-Err-clause-is
returns-in-Err-clause-is g c =
    let law = lawful g.P.Port g.met.P.Port.none g.met.P.Port.joins g.met.P.Port.rises in
    let r = runner_for do_bodies c.args.runner.now.room in
    let here = while_here r c.args.at c.args.label.now c.args.condition.now c.args.body.now law c.args.runner.now.room _ c.loop-turn.invariant.way c.loop-turn-test.true in
    asked_off law going_of (later (rounds r c.args.at c.args.label.now c.args.condition.now c.args.body.now _)) here c.in_ok-end.end _ c.in_ok-end.ensures.is (search rules)

pub loop-turn-preserved : goal.loop-turn-preserved
loop-turn-preserved g c =
    let law = lawful g.P.Port g.met.P.Port.none g.met.P.Port.joins g.met.P.Port.rises in
    let r = runner_for do_bodies c.args.runner.now.room in
    let here = while_here r c.args.at c.args.label.now c.args.condition.now c.args.body.now law c.args.runner.now.room _ c.loop-turn.invariant.way c.loop-turn-test.true in
    record {
      way = asked_on law going_of (later (rounds r c.args.at c.args.label.now c.args.condition.now c.args.body.now _)) here c.in_ok-end.end tt c.in_ok-end.ensures.is (search rules);
      suits = c.in_ok-end.ensures.suits;
      keeps = c.in_ok-end.ensures.keeps ∙ c.loop-turn.invariant.keeps;
    }

pub returns-clause-is : goal.returns-clause-is
returns-clause-is g c =
    let law = lawful g.P.Port g.met.P.Port.none g.met.P.Port.joins g.met.P.Port.rises in
    let r = runner_for do_bodies c.args.runner.now.room in
    answered law _ _ _ (while_end r c.args.at c.args.label.now c.args.condition.now c.args.body.now law c.args.runner.now.room _ c.loop-turn.invariant.way c.loop-turn-test.false) c.no_round.ensures.is
