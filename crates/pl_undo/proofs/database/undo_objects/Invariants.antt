use Rattle.std.proofs.Common.{◌≡◌, ◌≤◌, ℕ, length}
use Rattle.pl_undo.specs.Store.{objects_of, state_at}
use Rattle.pl_undo.proofs.database.undo_objects.Given as goal

abbrev pub invariant-loop-catalog : goal.invariant-loop-catalog
invariant-loop-catalog l = record {
  same : (n : ℕ) → n ≤ l.start → state_at (objects_of l.catalog) n ≡ state_at (objects_of l.fn.catalog) n;
  long : l.start ≤ length l.catalog.past;
}

abbrev pub decreases-loop-catalog : goal.decreases-loop-catalog
decreases-loop-catalog l = length l.catalog.past
