use Rattle.std.proofs.Common.{◌≡◌, ◌≤◌, ℕ, length}
use Rattle.pl_undo.specs.Store.{state_at}
use Rattle.pl_undo.proofs.database.undo_tables.Given as goal

abbrev pub invariant-loop-tables : goal.invariant-loop-tables
invariant-loop-tables l = record {
  same : (n : ℕ) → n ≤ l.start → state_at l.tables n ≡ state_at l.fn.tables n;
  long : l.start ≤ length l.tables.past;
}

abbrev pub decreases-loop-tables : goal.decreases-loop-tables
decreases-loop-tables l = length l.tables.past
