use Rattle.std.proofs.Common.{Some, refl, subst}
use Rattle.pl_engine.proofs.Joins.{answered, ended, lawful, start}
use Rattle.pl_engine.specs.Engines.{world}
use Rattle.pl_engine.specs.Texts.{do_bodies}
use Rattle.pl_engine.specs.pl_world.Control.{tested}
use Rattle.pl_engine.specs.pl_world.Statements.{runner_for}
use Rattle.pl_engine.specs.pl_world.World.{World}
use Rattle.pl_loops.proofs.Computed.{computed, however, not_yet}
use Rattle.pl_loops.proofs.at_once.round_at_once.Goals as goal
use Rattle.pl_loops.specs.Turns.{goes, round}
use Rattle.pl_quick.specs.Computing.{TurnedAs}
use Rattle.pl_quick.specs.declared.turning.Turned.{Turned}

pub returns-in-On : goal.returns-in-On
returns-in-On g c =
    let law = lawful g.P.Port g.met.P.Port.none g.met.P.Port.joins g.met.P.Port.rises in
    let k = λ (w : World). round (runner_for do_bodies c.args.runner.now.room) c.args.at c.args.label.now (tested (runner_for do_bodies c.args.runner.now.room) c.args.at c.args.condition.now) c.args.body.now w in
    let turned = subst (λ (t : Turned). TurnedAs t (Some c.args.condition.now) c.args.body.now (world c.args.engine.now) (world c.try_turn.new.engine)) c.in-On.is c.try_turn.ensures.turned in
    record {
      is = ended law (computed law c.try_turn.new.engine (start law (k (world c.args.engine.now)) c.args.engine.now c.args.port.now c.requires.fits) (turned c.args.at c.args.label.now c.args.runner.now.room goes c.requires.room) c.try_turn.ensures.only) refl;
      suits = c.try_turn.ensures.suits;
      keeps = c.try_turn.ensures.keeps;
    }

pub returns-in-Over : goal.returns-in-Over
returns-in-Over g c =
    let law = lawful g.P.Port g.met.P.Port.none g.met.P.Port.joins g.met.P.Port.rises in
    let k = λ (w : World). round (runner_for do_bodies c.args.runner.now.room) c.args.at c.args.label.now (tested (runner_for do_bodies c.args.runner.now.room) c.args.at c.args.condition.now) c.args.body.now w in
    let turned = subst (λ (t : Turned). TurnedAs t (Some c.args.condition.now) c.args.body.now (world c.args.engine.now) (world c.try_turn.new.engine)) c.in-Over.is c.try_turn.ensures.turned in
    record {
      is = ended law (computed law c.try_turn.new.engine (start law (k (world c.args.engine.now)) c.args.engine.now c.args.port.now c.requires.fits) (turned c.args.at c.args.label.now c.args.runner.now.room goes c.requires.room) c.try_turn.ensures.only) refl;
      suits = c.try_turn.ensures.suits;
      keeps = c.try_turn.ensures.keeps;
    }

pub returns-in-Left-clause-is : goal.returns-in-Left-clause-is
returns-in-Left-clause-is g c =
    let law = lawful g.P.Port g.met.P.Port.none g.met.P.Port.joins g.met.P.Port.rises in
    let k = λ (w : World). round (runner_for do_bodies c.args.runner.now.room) c.args.at c.args.label.now (tested (runner_for do_bodies c.args.runner.now.room) c.args.at c.args.condition.now) c.args.body.now w in
    let same = subst (λ (t : Turned). TurnedAs t (Some c.args.condition.now) c.args.body.now (world c.args.engine.now) (world c.try_turn.new.engine)) c.in-Left.is c.try_turn.ensures.turned in
    answered law c.round.new.engine c.round.new.port c.round.result (not_yet law k c.args.engine.now c.try_turn.new.engine c.args.port.now c.requires.fits same) c.round.ensures.is

pub returns-in-Left-clause-suits : goal.returns-in-Left-clause-suits
returns-in-Left-clause-suits g c = however c.round.result (c.try_turn.ensures.left c.in-Left.is (world c.round.new.engine))
