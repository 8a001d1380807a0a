use Rattle.pl_planned.proofs.Planning.{anew, none_behind}
use Rattle.pl_planned.proofs.journal.PlannedJournal.define.Goals as goal

pub invariant_of-self : goal.invariant_of-self
invariant_of-self c = anew c.depth-self-inside.result c.define.new.self (c.clear.ensures _) (none_behind c.depth-self-inside.result c.self.inside.journal.marks c.define.new.self.marks c.depth-self-inside.ensures c.define.ensures.marks)
