use Rattle.std.proofs.Common.{◌≡◌, ◌≤◌, ◌-◌}
use Rattle.pl_unique.specs.RowKeys.{partly, undone_key}
use Rattle.pl_unique.proofs.row_keys.undo_first.Given as goal

abbrev pub invariant-loop-at : goal.invariant-loop-at
invariant-loop-at l = record {
  is : l.keys.items ≡ partly undone_key l.at l.fn.keys.items;
  within : l.at ≤ l.count;
}

abbrev pub decreases-loop-at : goal.decreases-loop-at
decreases-loop-at l = l.count - l.at
