use Rattle.pl_engine.proofs.Marking.{released_world}
use Rattle.pl_engine.proofs.engine.Engine.unprotect.Goals as goal

pub returns-clause-is : goal.returns-clause-is
returns-clause-is c = released_world c.args.self.now c.release.new.self c.args.mark.at c.requires.live c.release.ensures.now c.release.ensures.last c.release.ensures.marks
