use Rattle.std.proofs.Common.{◌≡◌, ◌++◌, length, map}
use Rattle.pl_ddl.specs.Views.{column_view}
use Rattle.pl_ddl.specs.Written.{columns_in}
use Rattle.pl_ddl.proofs.written.columns_in.Given as goal

abbrev pub invariant-loop-elements : goal.invariant-loop-elements
invariant-loop-elements l =
    columns_in l.fn.elements ≡ map column_view l.columns.items ++ columns_in l.elements

abbrev pub decreases-loop-elements : goal.decreases-loop-elements
decreases-loop-elements l = length l.elements
