use Rattle.std.proofs.Common.{◌≡◌, ◌++◌, length, map}
use Rattle.pl_ddl.specs.Expressions.{seen}
use Rattle.pl_ddl.specs.Views.{column_view}
use Rattle.pl_ddl.proofs.expressions.variables_of.Given as goal

abbrev pub invariant-loop-columns : goal.invariant-loop-columns
invariant-loop-columns l =
    map seen (map column_view l.fn.columns)
    ≡ l.variables ++ map seen (map column_view l.columns)

abbrev pub decreases-loop-columns : goal.decreases-loop-columns
decreases-loop-columns l = length l.columns
