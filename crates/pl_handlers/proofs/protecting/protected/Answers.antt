use Rattle.std.proofs.Common.{◌≡◌, arith, refl, sym}
use Rattle.std.proofs.lemmas.Result.{on_ok_weaker}
use Rattle.pl_bodies.specs.declared.statement.Block.{out-Block}
use Rattle.pl_flow.proofs.of_pl_engine.Joins.{answered, becomes, before, lawful, refused}
use Rattle.pl_flow.specs.pl_engine.Engines.{kept, world}
use Rattle.pl_flow.specs.pl_engine.Handling.{kept_at, with_marks}
use Rattle.pl_flow.specs.pl_engine.Texts.{do_bodies}
use Rattle.pl_flow.proofs.Overs.{ran_on, ran_stopped}
use Rattle.pl_handlers.proofs.Handled.{caught_alike, mark_goes, mark_keeps, mark_lives, not_empty, protected_here, unprotected_here}
use Rattle.pl_handlers.proofs.protecting.protected.Goals as goal
use Rattle.pl_conditions.specs.pl_world.Blocks.{caught}
use Rattle.pl_conditions.specs.pl_world.Statements.{runner_for}

pub returns-then-is_empty-clause-is : goal.returns-then-is_empty-clause-is
returns-then-is_empty-clause-is g c =
    let law = lawful g.P.Port g.met.P.Port.none g.met.P.Port.joins g.met.P.Port.rises in
    let r = runner_for do_bodies c.args.runner.now.room in
    let b = out-Block c.args.block.now in
    answered law _ _ _ (unprotected_here law r b.label b.statements b.handlers c.args.engine.now c.args.port.now c.requires.fits c.as_slice-statements.result.now (c.is_empty.ensures.0 c.if-is_empty.true) c.as_slice-statements.ensures) c.all.ensures.is

pub returns-in_err-mark-clause-is : goal.returns-in_err-mark-clause-is
returns-in_err-mark-clause-is g c =
    let law = lawful g.P.Port g.met.P.Port.none g.met.P.Port.joins g.met.P.Port.rises in
    refused _ _ _ c.from_residual.ensures (before law refl)

pub all-requires-2-clause-room : goal.all-requires-2-clause-room
all-requires-2-clause-room g c =
    let law = lawful g.P.Port g.met.P.Port.none g.met.P.Port.joins g.met.P.Port.rises in
    let r = runner_for do_bodies c.args.runner.now.room in
    let b = out-Block c.args.block.now in
    let here = protected_here law r b.label b.statements b.handlers c.args.engine.now c.args.port.now c.requires.fits c.protect.new.self c.as_slice-statements.result.now (not_empty c.is_empty.result b.handlers c.is_empty.ensures c.if-is_empty.false) c.as_slice-statements.ensures c.in_ok-mark.ensures.is in
    let spent = here.told.spent in
    omega (arith, spent, c.requires.room)

pub all-requires-2-clause-fits : goal.all-requires-2-clause-fits
all-requires-2-clause-fits g c =
    let law = lawful g.P.Port g.met.P.Port.none g.met.P.Port.joins g.met.P.Port.rises in
    let r = runner_for do_bodies c.args.runner.now.room in
    let b = out-Block c.args.block.now in
    let here = protected_here law r b.label b.statements b.handlers c.args.engine.now c.args.port.now c.requires.fits c.protect.new.self c.as_slice-statements.result.now (not_empty c.is_empty.result b.handlers c.is_empty.ensures c.if-is_empty.false) c.as_slice-statements.ensures c.in_ok-mark.ensures.is in
    here.told.fits

pub returns-in_err-end-clause-is : goal.returns-in_err-end-clause-is
returns-in_err-end-clause-is g c =
    let law = lawful g.P.Port g.met.P.Port.none g.met.P.Port.joins g.met.P.Port.rises in
    let r = runner_for do_bodies c.args.runner.now.room in
    let b = out-Block c.args.block.now in
    let here = protected_here law r b.label b.statements b.handlers c.args.engine.now c.args.port.now c.requires.fits c.protect.new.self c.as_slice-statements.result.now (not_empty c.is_empty.result b.handlers c.is_empty.ensures c.if-is_empty.false) c.as_slice-statements.ensures c.in_ok-mark.ensures.is in
    refused c.all-2.new.engine _ c.in_err-end.field-0.0 c.from_residual-in_err-end.ensures (ran_stopped law (caught r b.label b.handlers (world c.args.engine.now)) here c.in_err-end.ensures.is)

pub catch-requires-clause-room : goal.catch-requires-clause-room
catch-requires-clause-room g c =
    let law = lawful g.P.Port g.met.P.Port.none g.met.P.Port.joins g.met.P.Port.rises in
    let r = runner_for do_bodies c.args.runner.now.room in
    let b = out-Block c.args.block.now in
    let here = protected_here law r b.label b.statements b.handlers c.args.engine.now c.args.port.now c.requires.fits c.protect.new.self c.as_slice-statements.result.now (not_empty c.is_empty.result b.handlers c.is_empty.ensures c.if-is_empty.false) c.as_slice-statements.ensures c.in_ok-mark.ensures.is in
    let spent = (ran_on law (caught r b.label b.handlers (world c.args.engine.now)) here c.in_ok-end.end c.in_ok-end.ensures.is).told.spent in
    omega (arith, spent, c.requires.room)

pub catch-requires-clause-fits : goal.catch-requires-clause-fits
catch-requires-clause-fits g c =
    let law = lawful g.P.Port g.met.P.Port.none g.met.P.Port.joins g.met.P.Port.rises in
    let r = runner_for do_bodies c.args.runner.now.room in
    let b = out-Block c.args.block.now in
    let here = protected_here law r b.label b.statements b.handlers c.args.engine.now c.args.port.now c.requires.fits c.protect.new.self c.as_slice-statements.result.now (not_empty c.is_empty.result b.handlers c.is_empty.ensures c.if-is_empty.false) c.as_slice-statements.ensures c.in_ok-mark.ensures.is in
    (ran_on law (caught r b.label b.handlers (world c.args.engine.now)) here c.in_ok-end.end c.in_ok-end.ensures.is).told.fits

pub catch-requires-clause-live : goal.catch-requires-clause-live
catch-requires-clause-live g c =
    mark_lives c.args.engine.now c.protect.new.self c.all-2.new.engine c.in_ok-mark.mark.at c.in_ok-mark.ensures.keeps c.in_ok-end.ensures.keeps c.in_ok-mark.ensures.at

pub returns-clause-is : goal.returns-clause-is
returns-clause-is g c =
    let law = lawful g.P.Port g.met.P.Port.none g.met.P.Port.joins g.met.P.Port.rises in
    let r = runner_for do_bodies c.args.runner.now.room in
    let b = out-Block c.args.block.now in
    let here = protected_here law r b.label b.statements b.handlers c.args.engine.now c.args.port.now c.requires.fits c.protect.new.self c.as_slice-statements.result.now (not_empty c.is_empty.result b.handlers c.is_empty.ensures c.if-is_empty.false) c.as_slice-statements.ensures c.in_ok-mark.ensures.is in
    let ran = ran_on law (caught r b.label b.handlers (world c.args.engine.now)) here c.in_ok-end.end c.in_ok-end.ensures.is in
    let keeps = mark_keeps c.args.engine.now c.protect.new.self c.all-2.new.engine c.in_ok-mark.mark.at c.in_ok-mark.ensures.keeps c.in_ok-end.ensures.keeps c.in_ok-mark.ensures.at in
    answered law _ _ _
    (becomes law ran (sym (caught_alike r b.label b.handlers (world c.args.engine.now) (kept_at c.in_ok-mark.mark.at c.all-2.new.engine) c.in_ok-end.end (world c.all-2.new.engine) (sym keeps) c.in_ok-mark.ensures.at)))
    c.catch.ensures.is

pub returns-clause-keeps : goal.returns-clause-keeps
returns-clause-keeps g c =
    on_ok_weaker {P = kept c.catch.new.engine ≡ with_marks c.in_ok-mark.mark.at (kept c.all-2.new.engine)} {Q = kept c.catch.new.engine ≡ kept c.args.engine.now} c.catch.result
    (mark_goes c.args.engine.now c.protect.new.self c.all-2.new.engine c.in_ok-mark.mark.at c.in_ok-mark.ensures.keeps c.in_ok-end.ensures.keeps c.in_ok-mark.ensures.at c.catch.new.engine) c.catch.ensures.keeps
