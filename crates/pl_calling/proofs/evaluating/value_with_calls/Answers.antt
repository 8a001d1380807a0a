use Rattle.std.proofs.Common.{◌≡◌, ◌++◌, ◌∙◌, refl, subst, sym}
use Rattle.pl_calling.proofs.Overs.{value_told}
use Rattle.pl_calling.proofs.evaluating.value_with_calls.Goals as goal
use Rattle.pl_calling.specs.Standing.{calls_kept, keep}
use Rattle.pl_engine.specs.pl_change.Running.{copied}
use Rattle.pl_engine.proofs.Joins.{before, lawful, refused}
use Rattle.pl_engine.specs.Engines.{world}
use Rattle.pl_engine.specs.Texts.{do_bodies}
use Rattle.pl_natural.specs.Kept.{ReadsKept}
use Rattle.pl_natural.specs.pl_query.Query.{rows}
use Rattle.pl_value.specs.Frames.{Row}
use Rattle.pl_engine.specs.pl_world.Expressions.{value_over}
use Rattle.pl_engine.specs.pl_world.Statements.{runner_for}
use Rattle.pl_engine.specs.pl_world.Variables.{row_of}
use Rattle.pl_engine.specs.pl_world.World.{World}

pub returns-in_err-row-clause-is : goal.returns-in_err-row-clause-is
returns-in_err-row-clause-is g c = refused _ _ _ c.from_residual.ensures (before (lawful g.P.Port g.met.P.Port.none g.met.P.Port.joins g.met.P.Port.rises) refl)

pub returns-in_err-copies-clause-is : goal.returns-in_err-copies-clause-is
returns-in_err-copies-clause-is g c = refused _ _ _ c.from_residual-in_err-copies.ensures (before (lawful g.P.Port g.met.P.Port.none g.met.P.Port.joins g.met.P.Port.rises) refl)

pub returns-clause-is : goal.returns-clause-is
returns-clause-is g c =
    let row : c.as_slice.result.now ≡ row_of (world c.args.engine.now).frame ++ c.args.beside.now = c.as_slice.ensures ∙ c.in_ok-row.ensures in
    let reads = value_told c.args.at c.args.calls.now.room (world c.args.engine.now) c.as_slice.result.now (rows calls_kept c.args.e.now.queries (copied c.in_ok-copies.copies.list.items)) c.begin-calling.result c.begin-calling.ensures
    c.args.e.now c.value_over-answer.result c.value_over-answer.new.caller (c.in_ok-copies.ensures calls_kept) c.value_over-answer.ensures in
    c.finish.ensures.is (value_over (runner_for do_bodies c.args.calls.now.room) c.args.at c.args.e.now (row_of (world c.args.engine.now).frame ++ c.args.beside.now) (world c.args.engine.now)) c.args.calls.now.room c.args.engine.now (sym c.requires.begins)
    (subst (λ (w : World). g.P.Port.fits w.last c.args.port.now) (sym c.requires.begins) c.requires.fits)
    (subst (λ (r : Row). ReadsKept (keep c.args.at c.args.calls.now.room) (value_over (runner_for do_bodies c.args.calls.now.room) c.args.at c.args.e.now r (world c.args.engine.now)) c.value_over-answer.result c.value_over-answer.new.caller) row reads)
