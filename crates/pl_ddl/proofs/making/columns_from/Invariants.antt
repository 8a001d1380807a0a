use Rattle.std.proofs.Common.{◌≡◌, [], length, map}
use Rattle.pl_ddl.specs.Definition.{columns_from}
use Rattle.pl_ddl.specs.Views.{column_view}
use Rattle.pl_ddl.proofs.making.columns_from.Given as goal

abbrev pub invariant-loop-columns : goal.invariant-loop-columns
invariant-loop-columns l =
    columns_from l.key [] (map column_view l.fn.columns)
    ≡ columns_from l.key l.made (map column_view l.columns)

abbrev pub decreases-loop-columns : goal.decreases-loop-columns
decreases-loop-columns l = length l.columns
