use Rattle.pl_engine.proofs.Marking.{back_kept, back_world, still_live}
use Rattle.pl_engine.proofs.engine.Engine.go_back.Goals as goal

pub release-requires : goal.release-requires
release-requires c = record { live = still_live c.args.mark.at c.args.self.now.journal.marks c.roll_back.new.self.marks c.roll_back.ensures.marks c.requires.live }

pub returns-clause-is : goal.returns-clause-is
returns-clause-is c =
    back_world c.args.self.now c.roll_back.new.self c.release.new.self c.roll_back.ensures.last c.release.ensures.now c.release.ensures.last c.args.mark.at c.requires.live c.roll_back.ensures.now c.roll_back.ensures.marks c.release.ensures.marks

pub returns-clause-keeps : goal.returns-clause-keeps
returns-clause-keeps c =
    back_kept c.args.self.now c.roll_back.new.self c.release.new.self c.roll_back.ensures.last c.release.ensures.now c.release.ensures.last c.args.mark.at c.requires.live c.roll_back.ensures.now c.roll_back.ensures.marks c.release.ensures.marks
