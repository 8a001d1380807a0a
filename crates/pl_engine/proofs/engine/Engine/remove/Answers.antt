use Rattle.pl_engine.proofs.Writes.{gone, not_gone, stays_kept}
use Rattle.pl_engine.proofs.engine.Engine.remove.Goals as goal

pub returns-clause-is : goal.returns-clause-is
returns-clause-is c = gone c.args.self.now c.remove.new.self c.args.table c.remove.ensures.only c.remove.result c.args.id c.remove.ensures.ok

pub returns-clause-err : goal.returns-clause-err
returns-clause-err c = not_gone c.args.self.now c.remove.new.self c.args.table c.remove.ensures.only c.remove.result c.remove.ensures.err

pub returns-clause-keeps : goal.returns-clause-keeps
returns-clause-keeps c = stays_kept c.args.self.now c.remove.new.self c.args.table c.remove.ensures.only
