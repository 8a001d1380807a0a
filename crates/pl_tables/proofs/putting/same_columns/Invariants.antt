use Rattle.std.proofs.Common.{◌≡◌, ◌++◌, drop}
use Rattle.std.specs.List.{AllByRecursion}
use Rattle.pl_unique.specs.RowKeys.{columns_of, IsNew}
use Rattle.pl_tables.proofs.putting.same_columns.Given as goal

abbrev pub invariant-loop-key : goal.invariant-loop-key
invariant-loop-key l = record {
  columns : columns_of l.made.items ++ columns_of (drop l.key-index l.keys) ≡ columns_of l.keys;
  new : AllByRecursion IsNew l.made.items;
}
