use Rattle.std.proofs.Common.{◌≡◌, ◌≤◌, ◌-◌, length}
use Rattle.pl_unique.specs.RowKeys.{partly, settled_key}
use Rattle.pl_unique.proofs.row_keys.forget_keys.Given as goal

abbrev pub invariant-loop-at : goal.invariant-loop-at
invariant-loop-at l = record {
  is : l.keys.items ≡ partly settled_key l.at l.fn.keys.items;
  within : l.at ≤ length l.fn.keys.items;
}

abbrev pub decreases-loop-at : goal.decreases-loop-at
decreases-loop-at l = length l.fn.keys.items - l.at
