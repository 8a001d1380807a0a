use Rattle.std.proofs.Common.{drop}
use Rattle.pl_change.specs.Running.{AreSameRows}
use Rattle.pl_value.specs.Meaning.{Calls, Sub}
use Rattle.pl_change.proofs.asking.any_row_asks.Given as goal

abbrev pub invariant-loop-row : goal.invariant-loop-row
invariant-loop-row g l =
    (calls : Calls g.row.C.Denot) (these those : Sub g.row.C.Denot) → AreSameRows calls these those (drop l.row-index l.rows) → AreSameRows calls these those l.rows
