use Rattle.std.proofs.Common.{◌≡◌, ◌++◌, length, map}
use Rattle.pl_ddl.specs.Refusals.{names_of}
use Rattle.pl_ddl.specs.Views.{column_view}
use Rattle.pl_ddl.proofs.written.names_of.Given as goal

abbrev pub invariant-loop-columns : goal.invariant-loop-columns
invariant-loop-columns l =
    names_of (map column_view l.fn.columns)
    ≡ l.names.items ++ names_of (map column_view l.columns)

abbrev pub decreases-loop-columns : goal.decreases-loop-columns
decreases-loop-columns l = length l.columns
