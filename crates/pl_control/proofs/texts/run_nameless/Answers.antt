use Rattle.std.proofs.Common.{List, refl, subst}
use Rattle.pl_base.specs.declared.value.Value.{Value}
use Rattle.pl_control.proofs.Bodies.{after_done, after_stopped}
use Rattle.pl_control.proofs.texts.run_nameless.Goals as goal
use Rattle.pl_engine.proofs.Joins.{before, lawful, refused}
use Rattle.pl_engine.specs.Answers.{Done, Stopped}
use Rattle.pl_engine.specs.Engines.{world}
use Rattle.pl_engine.specs.Texts.{do_bodies}
use Rattle.pl_engine.specs.pl_world.Calls.{called, nameless}
use Rattle.pl_engine.specs.pl_world.Statements.{runner_for}

pub returns-in_err-declared-clause-is : goal.returns-in_err-declared-clause-is
returns-in_err-declared-clause-is g c = refused _ _ _ c.from_residual.ensures (before (lawful g.P.Port g.met.P.Port.none g.met.P.Port.joins g.met.P.Port.rises) refl)

pub returns-in_err-end-clause-is : goal.returns-in_err-end-clause-is
returns-in_err-end-clause-is g c =
    let law = lawful g.P.Port g.met.P.Port.none g.met.P.Port.joins g.met.P.Port.rises in
    let callee = nameless c.args.b.now in
    let s = subst (λ (vs : List Value). Stopped g.P.Port (called (runner_for do_bodies c.args.runner.now.room) callee vs c.args.at (world c.args.engine.now)) c.in_err-end.field-0.0 c.args.engine.now c.args.port.now c.run_called.new.port) c.new.ensures
    (c.in_err-end.ensures.is callee (refl, refl, c.in_ok-declared.ensures, refl, refl)) in
    refused c.run_called.new.engine _ c.in_err-end.field-0.0 c.from_residual-in_err-end.ensures (after_stopped law s)

pub returns-clause-is : goal.returns-clause-is
returns-clause-is g c =
    let law = lawful g.P.Port g.met.P.Port.none g.met.P.Port.joins g.met.P.Port.rises in
    let callee = nameless c.args.b.now in
    let d = subst (λ (vs : List Value). Done g.P.Port (called (runner_for do_bodies c.args.runner.now.room) callee vs c.args.at (world c.args.engine.now)) c.in_ok-end.end c.args.engine.now c.run_called.new.engine c.args.port.now c.run_called.new.port) c.new.ensures
    (c.in_ok-end.ensures.is callee (refl, refl, c.in_ok-declared.ensures, refl, refl)) in
    after_done law c.requires.fits c.call_end.ensures d
