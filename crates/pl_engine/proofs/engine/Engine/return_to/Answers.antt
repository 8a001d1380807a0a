use Rattle.pl_engine.proofs.Marking.{returned_kept, returned_world}
use Rattle.pl_engine.proofs.engine.Engine.return_to.Goals as goal

pub returns-clause-is : goal.returns-clause-is
returns-clause-is c =
    returned_world c.args.self.now c.roll_back.new.self c.args.mark.now.at c.requires.live c.roll_back.ensures.now c.roll_back.ensures.last c.roll_back.ensures.marks

pub returns-clause-keeps : goal.returns-clause-keeps
returns-clause-keeps c =
    returned_kept c.args.self.now c.roll_back.new.self c.args.mark.now.at c.roll_back.ensures.marks
