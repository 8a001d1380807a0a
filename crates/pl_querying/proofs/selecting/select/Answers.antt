use Rattle.std.proofs.Common.{Err, List, Ok, Result, refl, subst}
use Rattle.pl_base.specs.declared.fail.Fail.{Fail}
use Rattle.pl_asking.specs.pl_calling.Reading.{rows_read}
use Rattle.pl_asking.proofs.of_pl_engine.Joins.{before, lawful, refused, stopped}
use Rattle.pl_asking.specs.pl_engine.Answers.{Done, Stopped}
use Rattle.pl_asking.specs.pl_engine.Engines.{Quiet, world}
use Rattle.pl_asking.specs.pl_engine.Texts.{do_bodies}
use Rattle.pl_asking.specs.pl_engine.declared.stop.Stop.TheVariants.{Memory}
use Rattle.pl_querying.proofs.Counted.{failed, filled, filling, on_rows, selected_is, stops}
use Rattle.pl_querying.proofs.selecting.select.Goals as goal
use Rattle.pl_resolved.specs.declared.query.RQuery.{RQuery}
use Rattle.pl_value.specs.Frames.{Row}
use Rattle.pl_world.specs.Statements.{runner_for}
use Rattle.pl_world.specs.World.{Ran}
use Rattle.pl_world.specs.declared.outcome.Outcome.{Outcome}
use Rattle.pl_world.specs.declared.outcome.Outcome.TheVariants as outcome

pub returns-in_err-found-clause-is : goal.returns-in_err-found-clause-is
returns-in_err-found-clause-is g c =
    let law = lawful g.P.Port g.met.P.Port.none g.met.P.Port.joins g.met.P.Port.rises in
    let r = runner_for do_bodies c.args.calls.now.room in
    let w = world c.args.engine.now in
    let s = subst (λ (qs : List RQuery). Stopped g.P.Port (rows_read r c.args.at qs w) c.in_err-found.field-0.0 c.args.engine.now c.args.port.now c.query.new.port) c.queries.ensures c.in_err-found.ensures.is in
    refused c.query.new.engine _ c.in_err-found.field-0.0 c.from_residual.ensures
    (subst (λ (ran : Ran Outcome). Stopped g.P.Port ran c.in_err-found.field-0.0 c.args.engine.now c.args.port.now c.query.new.port) (selected_is r c.args.at c.args.is_strict c.args.s.now w)
    (stops law r c.args.at c.args.s.now.queries c.requires.fits (filling c.args.at c.args.is_strict c.args.s.now) s))

pub returns-in_err-fill-in-Ok-clause-is : goal.returns-in_err-fill-in-Ok-clause-is
returns-in_err-fill-in-Ok-clause-is g c =
    let law = lawful g.P.Port g.met.P.Port.none g.met.P.Port.joins g.met.P.Port.rises in
    let r = runner_for do_bodies c.args.calls.now.room in
    let w = world c.args.engine.now in
    let d = subst (λ (qs : List RQuery). Done g.P.Port (rows_read r c.args.at qs w) (Ok c.in-Ok.rows) c.args.engine.now c.query.new.engine c.args.port.now c.query.new.port) c.queries.ensures
    (subst (λ (end : Result (List Row) Fail). Done g.P.Port (rows_read r c.args.at c.queries.result.now w) end c.args.engine.now c.query.new.engine c.args.port.now c.query.new.port) c.in-Ok.is c.in_ok-found.ensures.is) in
    refused _ _ Memory c.from_residual-in_err-fill-in-Ok.ensures
    (subst (λ (ran : Ran Outcome). Stopped g.P.Port ran Memory c.args.engine.now c.args.port.now c.query.new.port) (selected_is r c.args.at c.args.is_strict c.args.s.now w)
    (stopped law (on_rows law r c.args.at c.args.s.now.queries c.requires.fits c.in-Ok.rows d (filling c.args.at c.args.is_strict c.args.s.now)) (before law refl)))

pub returns-in_ok-fill-in-Ok-clause-is : goal.returns-in_ok-fill-in-Ok-clause-is
returns-in_ok-fill-in-Ok-clause-is g c =
    let law = lawful g.P.Port g.met.P.Port.none g.met.P.Port.joins g.met.P.Port.rises in
    let r = runner_for do_bodies c.args.calls.now.room in
    let w = world c.args.engine.now in
    let d = subst (λ (qs : List RQuery). Done g.P.Port (rows_read r c.args.at qs w) (Ok c.in-Ok.rows) c.args.engine.now c.query.new.engine c.args.port.now c.query.new.port) c.queries.ensures
    (subst (λ (end : Result (List Row) Fail). Done g.P.Port (rows_read r c.args.at c.queries.result.now w) end c.args.engine.now c.query.new.engine c.args.port.now c.query.new.port) c.in-Ok.is c.in_ok-found.ensures.is) in
    let quiet : Quiet (filling c.args.at c.args.is_strict c.args.s.now c.in-Ok.rows (world c.query.new.engine)) c.in_ok-fill-in-Ok.field-0 c.query.new.engine c.fill.new.engine = rw (← c.variables.ensures, ← c.as_slice.ensures) c.in_ok-fill-in-Ok.ensures.is in
    subst (λ (ran : Ran Outcome). Done g.P.Port ran c.in_ok-fill-in-Ok.field-0 c.args.engine.now c.fill.new.engine c.args.port.now c.query.new.port) (selected_is r c.args.at c.args.is_strict c.args.s.now w)
    (filled law r c.args.at c.args.s.now.queries c.requires.fits c.in-Ok.rows d (filling c.args.at c.args.is_strict c.args.s.now) c.in_ok-fill-in-Ok.field-0 quiet)

pub returns-in-Err-clause-is : goal.returns-in-Err-clause-is
returns-in-Err-clause-is g c =
    let law = lawful g.P.Port g.met.P.Port.none g.met.P.Port.joins g.met.P.Port.rises in
    let r = runner_for do_bodies c.args.calls.now.room in
    let w = world c.args.engine.now in
    let d = subst (λ (qs : List RQuery). Done g.P.Port (rows_read r c.args.at qs w) (Err c.in-Err.f) c.args.engine.now c.query.new.engine c.args.port.now c.query.new.port) c.queries.ensures
    (subst (λ (end : Result (List Row) Fail). Done g.P.Port (rows_read r c.args.at c.queries.result.now w) end c.args.engine.now c.query.new.engine c.args.port.now c.query.new.port) c.in-Err.is c.in_ok-found.ensures.is) in
    subst (λ (ran : Ran Outcome). Done g.P.Port ran (outcome.Fail c.in-Err.f) c.args.engine.now c.query.new.engine c.args.port.now c.query.new.port) (selected_is r c.args.at c.args.is_strict c.args.s.now w) (failed law r c.args.at c.args.s.now.queries c.requires.fits (filling c.args.at c.args.is_strict c.args.s.now) c.in-Err.f d)
