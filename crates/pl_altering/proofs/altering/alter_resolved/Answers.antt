use Rattle.std.proofs.Common.{Err, List, Ok, Result, refl, subst}
use Rattle.pl_altering.proofs.Ended.{failed, not_placed, placed, placing, stops}
use Rattle.pl_altering.proofs.altering.alter_resolved.Goals as goal
use Rattle.pl_altering.specs.Ends.{changes}
use Rattle.pl_base.specs.declared.fail.Fail.{Fail}
use Rattle.pl_querying.proofs.of_pl_engine.Joins.{before, lawful, refused, stopped}
use Rattle.pl_querying.specs.pl_engine.Answers.{Done, Stopped}
use Rattle.pl_querying.specs.pl_engine.Engines.{Quiet, world}
use Rattle.pl_querying.specs.pl_engine.Texts.{do_bodies}
use Rattle.pl_targets.specs.declared.change.RChange.{RChange}
use Rattle.pl_value.specs.Frames.{Row}
use Rattle.pl_world.specs.Statements.{runner_for}

pub returns-in_err-made-clause-is : goal.returns-in_err-made-clause-is
returns-in_err-made-clause-is g c =
    let law = lawful g.P.Port g.met.P.Port.none g.met.P.Port.joins g.met.P.Port.rises in
    let r = runner_for do_bodies c.args.calls.now.room in
    let s = subst (λ (change : RChange). Stopped g.P.Port (changes r c.args.at change (world c.args.engine.now)) c.in_err-made.field-0.0 c.args.engine.now c.args.port.now c.change-2.new.port) c.change.ensures c.in_err-made.ensures.is in
    refused c.change-2.new.engine _ c.in_err-made.field-0.0 c.from_residual.ensures (stops c.args.clause.now c.args.a.now c.args.at law r c.requires.fits s)

pub returns-in_err-count_rows-in-Ok-clause-is : goal.returns-in_err-count_rows-in-Ok-clause-is
returns-in_err-count_rows-in-Ok-clause-is g c =
    let law = lawful g.P.Port g.met.P.Port.none g.met.P.Port.joins g.met.P.Port.rises in
    let r = runner_for do_bodies c.args.calls.now.room in
    let d = subst (λ (change : RChange). Done g.P.Port (changes r c.args.at change (world c.args.engine.now)) (Ok c.in-Ok.rows) c.args.engine.now c.change-2.new.engine c.args.port.now c.change-2.new.port) c.change.ensures
    (subst (λ (end : Result (List Row) Fail). Done g.P.Port (changes r c.args.at c.change.result.now (world c.args.engine.now)) end c.args.engine.now c.change-2.new.engine c.args.port.now c.change-2.new.port) c.in-Ok.is c.in_ok-made.ensures.is) in
    refused _ _ _ c.from_residual-in_err-count_rows-in-Ok.ensures (stopped law (not_placed c.args.clause.now c.args.a.now c.args.at law r c.requires.fits c.in-Ok.rows d) (before law refl))

pub returns-in_ok-count_rows-in-Ok-clause-is : goal.returns-in_ok-count_rows-in-Ok-clause-is
returns-in_ok-count_rows-in-Ok-clause-is g c =
    let law = lawful g.P.Port g.met.P.Port.none g.met.P.Port.joins g.met.P.Port.rises in
    let r = runner_for do_bodies c.args.calls.now.room in
    let d = subst (λ (change : RChange). Done g.P.Port (changes r c.args.at change (world c.args.engine.now)) (Ok c.in-Ok.rows) c.args.engine.now c.change-2.new.engine c.args.port.now c.change-2.new.port) c.change.ensures
    (subst (λ (end : Result (List Row) Fail). Done g.P.Port (changes r c.args.at c.change.result.now (world c.args.engine.now)) end c.args.engine.now c.change-2.new.engine c.args.port.now c.change-2.new.port) c.in-Ok.is c.in_ok-made.ensures.is) in
    let quiet : Quiet (placing c.args.clause.now c.args.a.now c.args.at c.in-Ok.rows (world c.change-2.new.engine)) c.in_ok-count_rows-in-Ok.field-0 c.change-2.new.engine c.count_rows.new.engine = rw (← c.as_slice.ensures) c.in_ok-count_rows-in-Ok.ensures.is in
    placed c.args.clause.now c.args.a.now c.args.at law r c.requires.fits c.in-Ok.rows c.in_ok-count_rows-in-Ok.field-0 d quiet

pub returns-in-Err-clause-is : goal.returns-in-Err-clause-is
returns-in-Err-clause-is g c =
    let law = lawful g.P.Port g.met.P.Port.none g.met.P.Port.joins g.met.P.Port.rises in
    let r = runner_for do_bodies c.args.calls.now.room in
    let d = subst (λ (change : RChange). Done g.P.Port (changes r c.args.at change (world c.args.engine.now)) (Err c.in-Err.f) c.args.engine.now c.change-2.new.engine c.args.port.now c.change-2.new.port) c.change.ensures
    (subst (λ (end : Result (List Row) Fail). Done g.P.Port (changes r c.args.at c.change.result.now (world c.args.engine.now)) end c.args.engine.now c.change-2.new.engine c.args.port.now c.change-2.new.port) c.in-Err.is c.in_ok-made.ensures.is) in
    failed c.args.clause.now c.args.a.now c.args.at law r c.requires.fits c.in-Err.f d
