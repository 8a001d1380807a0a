use Rattle.std.proofs.Common.{refl}
use Rattle.pl_altering.proofs.Ended.{change_done, change_keeps, change_stopped}
use Rattle.pl_altering.proofs.changing.change.Goals as goal
use Rattle.pl_querying.proofs.of_pl_engine.Joins.{before, lawful, refused}
use Rattle.pl_querying.specs.pl_engine.Texts.{do_bodies}
use Rattle.pl_world.specs.Statements.{runner_for}

pub returns-in_err-begin_change-clause-is : goal.returns-in_err-begin_change-clause-is
returns-in_err-begin_change-clause-is g c = refused _ _ _ c.from_residual.ensures (before (lawful g.P.Port g.met.P.Port.none g.met.P.Port.joins g.met.P.Port.rises) refl)

pub returns-in_err-end-clause-is : goal.returns-in_err-end-clause-is
returns-in_err-end-clause-is g c =
    let law = lawful g.P.Port g.met.P.Port.none g.met.P.Port.joins g.met.P.Port.rises in
    refused c.change_begun.new.engine _ c.in_err-end.field-0.0 c.from_residual-in_err-end.ensures
    (change_stopped law (runner_for do_bodies c.args.calls.now.room) c.args.at c.args.change.now {e0 = c.args.engine.now} {e1 = c.begin_change.new.self} c.requires.fits c.in_ok-begin_change.ensures.is c.in_err-end.ensures.is)

pub returns-clause-is : goal.returns-clause-is
returns-clause-is g c =
    let law = lawful g.P.Port g.met.P.Port.none g.met.P.Port.joins g.met.P.Port.rises in
    change_done law (runner_for do_bodies c.args.calls.now.room) c.args.at c.args.change.now {e0 = c.args.engine.now} {e1 = c.begin_change.new.self} c.requires.fits c.in_ok-begin_change.ensures.is c.in_ok-end.end c.in_ok-end.ensures.is c.end_change.ensures.is

pub returns-clause-keeps : goal.returns-clause-keeps
returns-clause-keeps g c = change_keeps c.args.change.now.table c.args.engine.now c.begin_change.new.self c.change_begun.new.engine c.end_change.new.self c.in_ok-begin_change.ensures.keeps c.in_ok-end.ensures.keeps c.end_change.ensures.keeps
