use Rattle.std.proofs.Common.{◌≡◌, ◌≤◌, ◌-◌, length, take}
use Rattle.std.specs.List.{AllByRecursion}
use Rattle.pl_unique.specs.RowKeys.{columns_of, IsNew}
use Rattle.pl_unique.proofs.row_keys.new_keys.Given as goal

abbrev pub invariant-loop-number : goal.invariant-loop-number
invariant-loop-number l = record {
  columns : columns_of l.keys.items ≡ take l.number l.columns;
  within : l.number ≤ length l.columns;
  new : AllByRecursion IsNew l.keys.items;
}

abbrev pub decreases-loop-number : goal.decreases-loop-number
decreases-loop-number l = length l.columns - l.number
