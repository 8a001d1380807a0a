use Rattle.pl_engine.proofs.Marking.{set_kept, set_world}
use Rattle.pl_engine.proofs.engine.Engine.protect.Goals as goal

pub returns-clause-is : goal.returns-clause-is
returns-clause-is c =
    let room = c.in_ok-reserve_mark.ensures in
    set_world c.args.self.now c.reserve_mark.new.self c.mark.new.self room.last c.mark.ensures.now c.mark.ensures.last room.now room.marks c.mark.ensures.marks

pub returns-clause-keeps : goal.returns-clause-keeps
returns-clause-keeps c =
    let room = c.in_ok-reserve_mark.ensures in
    set_kept c.args.self.now c.reserve_mark.new.self c.mark.new.self room.last c.mark.ensures.now c.mark.ensures.last room.now room.marks c.mark.ensures.marks
