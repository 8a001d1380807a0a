use Rattle.std.proofs.Common.{◌≡◌, ◌++◌, take, codes}
use Rattle.std.specs.List.{join_by}
use Rattle.pl_print.specs.TextForm.{output}
use Rattle.pl_print.proofs.Joins.{separator_after}
use Rattle.pl_print.proofs.grids.push_cells.Given as goal

abbrev pub invariant-loop-cell : goal.invariant-loop-cell
invariant-loop-cell l =
    (l.separator ≡ separator_after (codes "|") (take l.cell-index l.cells)) ×
    (l.out.items ≡ l.initial.out.items ++ join_by output (codes "|") (take l.cell-index l.cells))
