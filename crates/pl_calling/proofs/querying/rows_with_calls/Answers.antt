use Rattle.std.proofs.Common.{◌≡◌, ◌∙◌, refl, subst, sym}
use Rattle.pl_calling.proofs.Overs.{rows_told}
use Rattle.pl_calling.proofs.querying.rows_with_calls.Goals as goal
use Rattle.pl_calling.specs.Standing.{calls_kept}
use Rattle.pl_engine.specs.pl_change.Running.{copied}
use Rattle.pl_engine.proofs.Joins.{before, lawful, refused}
use Rattle.pl_engine.specs.Engines.{world}
use Rattle.pl_engine.specs.Texts.{do_bodies}
use Rattle.pl_natural.specs.pl_query.Query.{rows}
use Rattle.pl_engine.specs.pl_world.Expressions.{rows_over}
use Rattle.pl_engine.specs.pl_world.Statements.{runner_for}
use Rattle.pl_engine.specs.pl_world.Variables.{row_of}
use Rattle.pl_engine.specs.pl_world.World.{World}

pub returns-in_err-row-clause-is : goal.returns-in_err-row-clause-is
returns-in_err-row-clause-is g c = refused _ _ _ c.from_residual.ensures (before (lawful g.P.Port g.met.P.Port.none g.met.P.Port.joins g.met.P.Port.rises) refl)

pub returns-in_err-copies-clause-is : goal.returns-in_err-copies-clause-is
returns-in_err-copies-clause-is g c = refused _ _ _ c.from_residual-in_err-copies.ensures (before (lawful g.P.Port g.met.P.Port.none g.met.P.Port.joins g.met.P.Port.rises) refl)

pub returns-clause-is : goal.returns-clause-is
returns-clause-is g c =
    let row : c.as_slice.result.now ≡ row_of (world c.args.engine.now).frame = c.as_slice.ensures ∙ (c.in_ok-row.ensures ∙ c.values.ensures) in
    let reads = rows_told c.args.at c.args.calls.now.room (world c.args.engine.now) c.as_slice.result.now (rows calls_kept c.args.queries.now (copied c.in_ok-copies.copies.list.items)) c.begin-calling.result c.begin-calling.ensures
    c.args.queries.now c.rows_over-answer.result c.rows_over-answer.new.caller row (c.in_ok-copies.ensures calls_kept) c.rows_over-answer.ensures in
    c.finish.ensures.is (rows_over (runner_for do_bodies c.args.calls.now.room) c.args.at c.args.queries.now (world c.args.engine.now)) c.args.calls.now.room c.args.engine.now (sym c.requires.begins)
    (subst (λ (w : World). g.P.Port.fits w.last c.args.port.now) (sym c.requires.begins) c.requires.fits) reads
