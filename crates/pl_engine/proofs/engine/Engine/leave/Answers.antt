use Rattle.pl_engine.proofs.Popping.{left_call, left_kept}
use Rattle.pl_engine.proofs.engine.Engine.leave.Goals as goal

pub returns-clause-is : goal.returns-clause-is
returns-clause-is c = rw c.leave.ensures (left_call c.args.self.now)

pub returns-clause-keeps : goal.returns-clause-keeps
returns-clause-keeps c = rw c.leave.ensures (left_kept c.args.self.now)
