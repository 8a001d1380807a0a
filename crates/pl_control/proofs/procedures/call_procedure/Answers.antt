use Rattle.std.proofs.Common.{List, Ok, Err, Result, subst}
use Rattle.pl_base.specs.declared.fail.Fail.{Fail}
use Rattle.pl_base.specs.declared.value.Value.{Value}
use Rattle.pl_asking.specs.pl_calling.Ends.{settles}
use Rattle.pl_control.proofs.Invoking.{failed, invoked_is, returned, stopped_early, stopped_late}
use Rattle.pl_control.proofs.procedures.call_procedure.Goals as goal
use Rattle.pl_engine.proofs.Joins.{lawful, refused}
use Rattle.pl_engine.specs.Answers.{Done, Stopped}
use Rattle.pl_engine.specs.Engines.{world}
use Rattle.pl_engine.specs.Texts.{do_bodies}
use Rattle.pl_resolved.specs.declared.expression.RExpr.{RExpr}
use Rattle.pl_engine.specs.pl_world.Statements.{runner_for}
use Rattle.pl_engine.specs.pl_world.Transactions.{arguments_over}
use Rattle.pl_engine.specs.pl_world.World.{Ran}
use Rattle.pl_engine.specs.pl_world.declared.outcome.Outcome.{Outcome}
use Rattle.pl_engine.specs.pl_world.declared.outcome.Outcome.TheVariants as outcome

pub returns-in_err-read-clause-is : goal.returns-in_err-read-clause-is
returns-in_err-read-clause-is g c = λ callee names.
    let law = lawful g.P.Port g.met.P.Port.none g.met.P.Port.joins g.met.P.Port.rises in
    let r = runner_for do_bodies c.args.runner.now.room in
    let w = world c.args.engine.now in
    let s = subst (λ (list : List RExpr). Stopped g.P.Port (settles (arguments_over r c.args.at list w) c.args.at) c.in_err-read.field-0.0 c.args.engine.now c.args.port.now c.evaluate_all.new.port) c.as_slice.ensures c.in_err-read.ensures.is in
    refused c.evaluate_all.new.engine _ c.in_err-read.field-0.0 c.from_residual.ensures
    (subst (λ (ran : Ran Outcome). Stopped g.P.Port ran c.in_err-read.field-0.0 c.args.engine.now c.args.port.now c.evaluate_all.new.port) (invoked_is r c.args.at c.args.p.now callee w names) (stopped_early r c.args.at law c.args.p.now c.requires.fits s))

pub returns-in_err-end-in-Ok-clause-is : goal.returns-in_err-end-in-Ok-clause-is
returns-in_err-end-in-Ok-clause-is g c = λ callee names.
    let law = lawful g.P.Port g.met.P.Port.none g.met.P.Port.joins g.met.P.Port.rises in
    let r = runner_for do_bodies c.args.runner.now.room in
    let w = world c.args.engine.now in
    let d = subst (λ (list : List RExpr). Done g.P.Port (settles (arguments_over r c.args.at list w) c.args.at) (Ok c.in-Ok.values) c.args.engine.now c.evaluate_all.new.engine c.args.port.now c.evaluate_all.new.port) c.as_slice.ensures
    (subst (λ (end : Result (List Value) Fail). Done g.P.Port (settles (arguments_over r c.args.at c.as_slice.result.now w) c.args.at) end c.args.engine.now c.evaluate_all.new.engine c.args.port.now c.evaluate_all.new.port) c.in-Ok.is c.in_ok-read.ensures.is) in
    refused c.call_by_name.new.engine _ c.in_err-end-in-Ok.field-0.0 c.from_residual-in_err-end-in-Ok.ensures
    (subst (λ (ran : Ran Outcome). Stopped g.P.Port ran c.in_err-end-in-Ok.field-0.0 c.args.engine.now c.args.port.now c.call_by_name.new.port) (invoked_is r c.args.at c.args.p.now callee w names) (stopped_late r c.args.at law c.args.p.now c.requires.fits c.in-Ok.values d c.in_err-end-in-Ok.ensures.is))

pub returns-in_ok-end-in-Ok-clause-is : goal.returns-in_ok-end-in-Ok-clause-is
returns-in_ok-end-in-Ok-clause-is g c = λ callee names.
    let law = lawful g.P.Port g.met.P.Port.none g.met.P.Port.joins g.met.P.Port.rises in
    let r = runner_for do_bodies c.args.runner.now.room in
    let w = world c.args.engine.now in
    let d = subst (λ (list : List RExpr). Done g.P.Port (settles (arguments_over r c.args.at list w) c.args.at) (Ok c.in-Ok.values) c.args.engine.now c.evaluate_all.new.engine c.args.port.now c.evaluate_all.new.port) c.as_slice.ensures
    (subst (λ (end : Result (List Value) Fail). Done g.P.Port (settles (arguments_over r c.args.at c.as_slice.result.now w) c.args.at) end c.args.engine.now c.evaluate_all.new.engine c.args.port.now c.evaluate_all.new.port) c.in-Ok.is c.in_ok-read.ensures.is) in
    subst (λ (ran : Ran Outcome). Done g.P.Port ran c.call_end.result c.args.engine.now c.call_by_name.new.engine c.args.port.now c.call_by_name.new.port) (invoked_is r c.args.at c.args.p.now callee w names)
    (returned r c.args.at law c.args.p.now c.requires.fits c.in-Ok.values d c.in_ok-end-in-Ok.ensures.is c.call_end.ensures)

pub returns-in-Err-clause-is : goal.returns-in-Err-clause-is
returns-in-Err-clause-is g c = λ callee names.
    let law = lawful g.P.Port g.met.P.Port.none g.met.P.Port.joins g.met.P.Port.rises in
    let r = runner_for do_bodies c.args.runner.now.room in
    let w = world c.args.engine.now in
    let d = subst (λ (list : List RExpr). Done g.P.Port (settles (arguments_over r c.args.at list w) c.args.at) (Err c.in-Err.f) c.args.engine.now c.evaluate_all.new.engine c.args.port.now c.evaluate_all.new.port) c.as_slice.ensures
    (subst (λ (end : Result (List Value) Fail). Done g.P.Port (settles (arguments_over r c.args.at c.as_slice.result.now w) c.args.at) end c.args.engine.now c.evaluate_all.new.engine c.args.port.now c.evaluate_all.new.port) c.in-Err.is c.in_ok-read.ensures.is) in
    subst (λ (ran : Ran Outcome). Done g.P.Port ran (outcome.Fail c.in-Err.f) c.args.engine.now c.evaluate_all.new.engine c.args.port.now c.evaluate_all.new.port) (invoked_is r c.args.at c.args.p.now callee w names)
    (failed r c.args.at law c.args.p.now c.requires.fits c.in-Err.f d)
