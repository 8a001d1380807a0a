use Rattle.std.proofs.Common.{◌≡◌, length}
use Rattle.pl_altering.proofs.Over.{over}
use Rattle.pl_altering.proofs.Turns.{Left}
use Rattle.pl_altering.proofs.running.update_each.Given as goal
use Rattle.pl_altering.specs.Entries.{entries}
use Rattle.pl_world.specs.Changes.{updates}

abbrev pub invariant-loop-entry : goal.invariant-loop-entry
invariant-loop-entry g l = record {
  left : Left l.command (updates (over l.command l.inside) l.columns l.parts l.condition) (entries l.fn.kept.items) (entries l.entry-iterator.rest.items) l.rows l.fn.calling l.calling;
  counted : length l.entry-iterator.rest.items ≡ l.entry-iterator.rest.len;
}
