use Rattle.std.proofs.Common.{arith, ◌+◌}
use Rattle.pl_planned.proofs.Planning.{back, back_before}
use Rattle.pl_planned.proofs.journal.PlannedJournal.roll_back.Goals as goal

pub invariant_of-self : goal.invariant_of-self
invariant_of-self c =
    back_before c.args.mark.now.at c.self.inside.journal c.roll_back.new.self (c.clear.ensures _) c.roll_back.ensures.now c.roll_back.ensures.marks

pub invariant_of-self-else-mark-self : goal.invariant_of-self-else-mark-self
invariant_of-self-else-mark-self c =
    let at = c.args.mark.now.at in
    let le = c.if-mark-self.false in
    back c.self.inside.journal c.roll_back.new.self c.self.invariant at (at + 1) (omega (arith, le)) c.roll_back.ensures.now c.roll_back.ensures.marks
