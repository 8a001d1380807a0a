use Rattle.std.proofs.Common.{◌∙◌, ℕ, List, Result, ap, subst}
use Rattle.pl_base.specs.declared.fail.Fail.{Fail}
use Rattle.pl_asking.specs.pl_calling.Reading.{rows_read}
use Rattle.pl_asking.proofs.of_pl_engine.Joins.{lawful, refused}
use Rattle.pl_asking.specs.pl_engine.Answers.{Done, Stopped}
use Rattle.pl_asking.specs.pl_engine.Engines.{world}
use Rattle.pl_asking.specs.pl_engine.Texts.{do_bodies}
use Rattle.pl_querying.proofs.Counted.{refused_done, refusing, failed, refused_is, stops}
use Rattle.pl_querying.proofs.refusing.refuse_rows.Goals as goal
use Rattle.pl_value.specs.Frames.{Row}
use Rattle.pl_world.specs.Statements.{runner_for}
use Rattle.pl_world.specs.Variables.{counted}
use Rattle.pl_world.specs.World.{Ran}
use Rattle.pl_world.specs.declared.outcome.Outcome.{Outcome}
use Rattle.pl_world.specs.declared.outcome.Outcome.TheVariants as outcome

pub returns-in_err-found-clause-is : goal.returns-in_err-found-clause-is
returns-in_err-found-clause-is g c =
    let law = lawful g.P.Port g.met.P.Port.none g.met.P.Port.joins g.met.P.Port.rises in
    let r = runner_for do_bodies c.args.calls.now.room in
    refused c.query.new.engine _ c.in_err-found.field-0.0 c.from_residual.ensures
    (subst (λ (ran : Ran Outcome). Stopped g.P.Port ran c.in_err-found.field-0.0 c.args.engine.now c.args.port.now c.query.new.port) (refused_is r c.args.at c.args.queries.now (world c.args.engine.now)) (stops law r c.args.at c.args.queries.now c.requires.fits (refusing c.args.at) c.in_err-found.ensures.is))

pub returns-in-Ok-clause-is : goal.returns-in-Ok-clause-is
returns-in-Ok-clause-is g c =
    let law = lawful g.P.Port g.met.P.Port.none g.met.P.Port.joins g.met.P.Port.rises in
    let r = runner_for do_bodies c.args.calls.now.room in
    let d = subst (λ (end : Result (List Row) Fail). Done g.P.Port (rows_read r c.args.at c.args.queries.now (world c.args.engine.now)) end c.args.engine.now c.query.new.engine c.args.port.now c.query.new.port) c.in-Ok.is c.in_ok-found.ensures.is in
    refused_done law r c.args.at c.args.queries.now c.requires.fits c.in-Ok.rows d {new = c.count.new.self} c.raise.result (c.count.ensures.is ∙ ap (λ (n : ℕ). counted n (world c.query.new.engine)) c.len-many.ensures) c.raise.ensures

pub returns-in-Err-clause-is : goal.returns-in-Err-clause-is
returns-in-Err-clause-is g c =
    let law = lawful g.P.Port g.met.P.Port.none g.met.P.Port.joins g.met.P.Port.rises in
    let r = runner_for do_bodies c.args.calls.now.room in
    let d = subst (λ (end : Result (List Row) Fail). Done g.P.Port (rows_read r c.args.at c.args.queries.now (world c.args.engine.now)) end c.args.engine.now c.query.new.engine c.args.port.now c.query.new.port) c.in-Err.is c.in_ok-found.ensures.is in
    subst (λ (ran : Ran Outcome). Done g.P.Port ran (outcome.Fail c.in-Err.f) c.args.engine.now c.query.new.engine c.args.port.now c.query.new.port) (refused_is r c.args.at c.args.queries.now (world c.args.engine.now)) (failed law r c.args.at c.args.queries.now c.requires.fits (refusing c.args.at) c.in-Err.f d)
