use Rattle.std.proofs.Common.{◌≡◌, ◌≤◌, ◌-◌, length, take}
use Rattle.std.specs.List.{AllByRecursion}
use Rattle.std.specs.Option.{option_copied}
use Rattle.pl_unique.specs.RowKeys.{changed_key, partly, KeyIsFree}
use Rattle.pl_unique.proofs.row_keys.change_keys.Given as goal

abbrev pub invariant-loop-done : goal.invariant-loop-done
invariant-loop-done l = record {
  is : l.keys.items ≡ partly (changed_key l.place (option_copied l.row)) l.done l.fn.keys.items;
  within : l.done ≤ length l.fn.keys.items;
  free : AllByRecursion (KeyIsFree l.place (option_copied l.row)) (take l.done l.fn.keys.items);
}

abbrev pub decreases-loop-done : goal.decreases-loop-done
decreases-loop-done l = length l.fn.keys.items - l.done
