use Rattle.std.proofs.Common.{◌≡◌, arith, false, length, nat_lt, subst, sym, true}
use Rattle.std.proofs.lemmas.Bool.Decides.{nat_tests}
use Rattle.pl_asking.proofs.of_pl_calling.Entered.{called_is, too_deep}
use Rattle.pl_control.proofs.callees.run_called.Goals as goal
use Rattle.pl_engine.proofs.Joins.{acted, becomes, lawful, start}
use Rattle.pl_engine.specs.Answers.{Answers}
use Rattle.pl_engine.specs.Engines.{world}
use Rattle.pl_engine.specs.Texts.{do_bodies}
use Rattle.pl_engine.specs.pl_world.Calls.{called, most_calls}
use Rattle.pl_engine.specs.pl_world.Statements.{runner_for}
use Rattle.pl_engine.specs.pl_world.World.{Ran}
use Rattle.pl_engine.specs.pl_world.declared.outcome.Outcome.{Outcome}

pub returns-then-calls-lt-MOST_CALLS-clause-is : goal.returns-then-calls-lt-MOST_CALLS-clause-is
returns-then-calls-lt-MOST_CALLS-clause-is g c = λ callee is.
    let few : nat_lt (length (world c.args.engine.now).below) most_calls ≡ true = let many = c.calls.ensures in let lt = c.if-calls-lt-MOST_CALLS.true in grind (arith, nat_tests, many, lt) in
    subst (λ (ran : Ran Outcome). Answers g.P.Port ran c.run_in_call.result c.args.engine.now c.run_in_call.new.engine c.args.port.now c.run_in_call.new.port)
    (sym (called_is (runner_for do_bodies c.args.runner.now.room) callee c.args.values c.args.at (world c.args.engine.now) few)) (c.run_in_call.ensures.is callee is)

pub returns-clause-is : goal.returns-clause-is
returns-clause-is g c = λ callee is.
    let law = lawful g.P.Port g.met.P.Port.none g.met.P.Port.joins g.met.P.Port.rises in
    let r = runner_for do_bodies c.args.runner.now.room in
    let w = world c.args.engine.now in
    let deep : nat_lt (length w.below) most_calls ≡ false = let many = c.calls.ensures in let ge = c.if-calls-lt-MOST_CALLS.false in grind (arith, nat_tests, many, ge) in
    acted law (becomes law (start law (called r callee c.args.values c.args.at w) c.args.engine.now c.args.port.now c.requires.fits) (too_deep r callee c.args.values c.args.at w deep)) c.raise.ensures
