use Rattle.std.proofs.Common.{subst, sym, true, refl}
use Rattle.pl_asking.proofs.of_pl_calling.Entered.{called_done, called_keeps}
use Rattle.pl_control.proofs.Bodies.{body_lost, body_stopped}
use Rattle.pl_control.proofs.callees.run_in_call.Goals as goal
use Rattle.pl_control.specs.Called.{found_of}
use Rattle.pl_engine.proofs.Joins.{before, lawful, refused}
use Rattle.pl_engine.specs.pl_world.World.{World}

pub returns-in_err-enter-clause-is : goal.returns-in_err-enter-clause-is
returns-in_err-enter-clause-is g c = λ callee is. refused _ _ _ c.from_residual.ensures (before (lawful g.P.Port g.met.P.Port.none g.met.P.Port.joins g.met.P.Port.rises) refl)

pub run_body-requires-clause-fits : goal.run_body-requires-clause-fits
run_body-requires-clause-fits g c = subst (λ (w : World). g.P.Port.fits w.last c.args.port.now) (sym c.in_ok-enter.ensures.is) c.requires.fits

pub returns-in_err-end-clause-is : goal.returns-in_err-end-clause-is
returns-in_err-end-clause-is g c = λ callee is.
    refused c.run_body.new.engine _ c.in_err-end.field-0.0 c.from_residual-in_err-end.ensures
    (body_stopped (lawful g.P.Port g.met.P.Port.none g.met.P.Port.joins g.met.P.Port.rises) c.args.runner.now.room (found_of c.args.called c.args.b.now) callee is c.args.values {e0 = c.args.engine.now} {e1 = c.enter.new.self} c.requires.fits c.in_ok-enter.ensures.is
    c.in_err-end.field-0.0 c.in_err-end.ensures.is)

pub returns-in_err-end-2-clause-is : goal.returns-in_err-end-2-clause-is
returns-in_err-end-2-clause-is g c = λ callee is.
    refused c.run_body.new.engine _ _ c.from_residual-in_err-end-2.ensures
    (body_lost (lawful g.P.Port g.met.P.Port.none g.met.P.Port.joins g.met.P.Port.rises) c.args.runner.now.room (found_of c.args.called c.args.b.now) callee is c.args.values {e0 = c.args.engine.now} {e1 = c.enter.new.self} c.requires.fits c.in_ok-enter.ensures.is
    c.in_ok-end.end _ refl c.in_ok-end.ensures.is)

pub returns-clause-is : goal.returns-clause-is
returns-clause-is g c = λ callee is.
    called_done (lawful g.P.Port g.met.P.Port.none g.met.P.Port.joins g.met.P.Port.rises) c.args.runner.now.room true (found_of c.args.called c.args.b.now) callee is c.args.values {e0 = c.args.engine.now} {e1 = c.enter.new.self} {e2 = c.run_body.new.engine} {e3 = c.leave.new.self}
    c.requires.fits c.in_ok-end.end c.in_ok-end-2.end c.in_ok-enter.ensures.is c.in_ok-end.ensures.is c.in_ok-end-2.ensures c.leave.ensures.is

pub returns-clause-keeps : goal.returns-clause-keeps
returns-clause-keeps g c = called_keeps c.args.engine.now c.enter.new.self c.run_body.new.engine c.leave.new.self c.in_ok-enter.ensures.keeps c.in_ok-end.ensures.keeps c.leave.ensures.keeps
