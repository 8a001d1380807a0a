use Rattle.std.proofs.Common.{List, Option, None, Some, refl, subst, sym, true}
use Rattle.pl_base.specs.declared.value.Value.{Value}
use Rattle.pl_bodies.specs.declared.statement.Body.{Body}
use Rattle.pl_asking.proofs.of_pl_calling.Entered.{none_called}
use Rattle.pl_asking.specs.pl_calling.Called.{CallsIt, IsCallee}
use Rattle.pl_asking.specs.pl_calling.declared.callee.Found.{Found}
use Rattle.pl_control.proofs.calls.call_by_name.Goals as goal
use Rattle.pl_engine.proofs.Joins.{before, lawful, refused}
use Rattle.pl_engine.specs.Answers.{Answers}
use Rattle.pl_engine.specs.Engines.{world}
use Rattle.pl_engine.specs.Texts.{do_bodies}
use Rattle.pl_engine.specs.pl_world.Statements.{runner_for}
use Rattle.pl_engine.specs.pl_world.World.{Ran}
use Rattle.pl_engine.specs.pl_world.declared.outcome.Outcome.{Outcome}

pub returns-in_err-found-clause-is : goal.returns-in_err-found-clause-is
returns-in_err-found-clause-is g c = refused _ _ _ c.from_residual.ensures (before (lawful g.P.Port g.met.P.Port.none g.met.P.Port.joins g.met.P.Port.rises) refl)

pub returns-in_default-clause-is : goal.returns-in_default-clause-is
returns-in_default-clause-is g c =
    let w = world c.args.engine.now in
    let calls : CallsIt true None c.args.name c.args.values w = subst (λ (vs : List Value). CallsIt true None c.args.name vs w) c.as_slice.ensures (subst (λ (f : Option Found). CallsIt true f c.args.name c.as_slice.result.now w) c.in_default.is c.in_ok-found.ensures) in
    none_called (lawful g.P.Port g.met.P.Port.none g.met.P.Port.joins g.met.P.Port.rises) c.args.runner.now.room true c.args.name c.args.values c.args.at c.args.engine.now c.requires.fits calls c.raise.ensures

pub returns-clause-is : goal.returns-clause-is
returns-clause-is g c =
    let w = world c.args.engine.now in
    let r = runner_for do_bodies c.args.runner.now.room in
    let calls : CallsIt true (Some c.in-Some.found) c.args.name c.args.values w = subst (λ (vs : List Value). CallsIt true (Some c.in-Some.found) c.args.name vs w) c.as_slice.ensures (subst (λ (f : Option Found). CallsIt true f c.args.name c.as_slice.result.now w) c.in-Some.is c.in_ok-found.ensures) in
    subst (λ (ran : Ran Outcome). Answers g.P.Port ran c.run_called.result c.args.engine.now c.run_called.new.engine c.args.port.now c.run_called.new.port) (sym (calls.2 r c.args.at))
    (c.run_called.ensures.is calls.0 (subst (λ (b : Body). IsCallee true (record c.in-Some.found { body = b }) calls.0) (sym c.get.ensures) calls.1))
