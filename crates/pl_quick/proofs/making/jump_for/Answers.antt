use Rattle.pl_engine.specs.Engines.{world}
use Rattle.pl_quick.proofs.Plans.{jump_for}
use Rattle.pl_quick.proofs.making.jump_for.Goals as goal

pub returns-clause-act : goal.returns-clause-act
returns-clause-act c = λ n. jump_for n (world c.args.engine.now) c.args.jump c.in_ok-condition.condition c.args.condition.now c.in_ok-condition.ensures.reads
