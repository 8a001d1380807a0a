use Rattle.std.proofs.Common.{false, subst}
use Rattle.pl_bodies.specs.declared.statement.Body.{Body}
use Rattle.pl_calling.proofs.Entered.{called_done, called_keeps, held_law}
use Rattle.pl_calling.proofs.bodies.run_found.Goals as goal
use Rattle.pl_engine.specs.Answers.{Done}
use Rattle.pl_engine.specs.Engines.{Quiet, world}
use Rattle.pl_engine.specs.Texts.{do_bodies}
use Rattle.pl_engine.specs.contracts.held.HeldPort.TheImpl.{ghosts}
use Rattle.pl_engine.specs.pl_world.Calls.{given}
use Rattle.pl_engine.specs.pl_world.Running.{body, spot_of}
use Rattle.pl_engine.specs.pl_world.Statements.{run_within}

pub returns-clause-is : goal.returns-clause-is
returns-clause-is g c = λ callee is.
    called_done held_law c.args.room false c.args.found callee is c.args.values {e0 = c.args.engine.now} {e1 = c.enter.new.self} {e2 = c.run_body.new.engine} {e3 = c.leave.new.self} {p = c.args.held.now} {q = c.run_body.new.held} tt c.in_ok-end.end c.in_ok-end-2.end c.in_ok-enter.ensures.is
    (subst (λ (b : Body). Done ghosts (run_within do_bodies c.args.room (body b) (world c.enter.new.self)) c.in_ok-end.end c.enter.new.self c.run_body.new.engine c.args.held.now c.run_body.new.held) c.get-lent.ensures c.in_ok-end.ensures.is)
    (subst (λ (b : Body). Quiet (given c.args.found.result c.in_ok-end.end (spot_of (body b)) (world c.run_body.new.engine)) c.in_ok-end-2.end c.run_body.new.engine c.run_body.new.engine) c.get-lent.ensures c.in_ok-end-2.ensures) c.leave.ensures.is

pub returns-clause-keeps : goal.returns-clause-keeps
returns-clause-keeps g c = called_keeps c.args.engine.now c.enter.new.self c.run_body.new.engine c.leave.new.self c.in_ok-enter.ensures.keeps c.in_ok-end.ensures.keeps c.leave.ensures.keeps
