use Rattle.std.proofs.Common.{subst, sym}
use Rattle.pl_calling.proofs.Telling.{evaluated_is}
use Rattle.pl_calling.proofs.evaluating.evaluate.Goals as goal
use Rattle.pl_engine.specs.Answers.{Answers}
use Rattle.pl_engine.specs.Engines.{world}
use Rattle.pl_engine.specs.Texts.{do_bodies}
use Rattle.pl_engine.specs.pl_world.Statements.{runner_for}
use Rattle.pl_engine.specs.pl_world.World.{Ran}
use Rattle.pl_engine.specs.pl_world.declared.outcome.Outcome.{Outcome}

pub returns-clause-is : goal.returns-clause-is
returns-clause-is g c =
    subst (λ (ran : Ran Outcome). Answers g.P.Port ran c.evaluate_beside.result c.args.engine.now c.evaluate_beside.new.engine c.args.port.now c.evaluate_beside.new.port)
    (sym (evaluated_is (runner_for do_bodies c.args.calls.now.room) c.args.at c.args.e.now (world c.args.engine.now))) c.evaluate_beside.ensures.is
