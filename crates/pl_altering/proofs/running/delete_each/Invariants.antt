use Rattle.std.proofs.Common.{drop}
use Rattle.pl_altering.proofs.Over.{over}
use Rattle.pl_altering.proofs.Turns.{Left}
use Rattle.pl_altering.proofs.running.delete_each.Given as goal
use Rattle.pl_altering.specs.Entries.{entries}
use Rattle.pl_world.specs.Changes.{deletes}

abbrev pub invariant-loop-entry : goal.invariant-loop-entry
invariant-loop-entry g l = Left l.command (deletes (over l.command l.inside) l.condition) (entries l.kept) (entries (drop l.entry-index l.kept)) l.rows l.fn.calling l.calling
