use Rattle.pl_transactions.proofs.Ends.{marks_gone, no_depths, no_marks, none_below}
use Rattle.pl_transactions.proofs.ending.release_all.Goals as goal

pub returns-then-depth-gt0-clause-keeps : goal.returns-then-depth-gt0-clause-keeps
returns-then-depth-gt0-clause-keeps c = marks_gone c.args.engine.now c.unprotect.new.self c.unprotect.ensures.keeps

pub returns-else-depth-gt0-clause-world : goal.returns-else-depth-gt0-clause-world
returns-else-depth-gt0-clause-world c = no_depths c.args.engine.now (none_below c.args.engine.now c.depth.result c.depth.ensures c.if-depth-gt0.false)

pub returns-else-depth-gt0-clause-keeps : goal.returns-else-depth-gt0-clause-keeps
returns-else-depth-gt0-clause-keeps c = no_marks c.args.engine.now (none_below c.args.engine.now c.depth.result c.depth.ensures c.if-depth-gt0.false)
