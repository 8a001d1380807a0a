use Rattle.std.proofs.Common.{◌≡◌, length}
use Rattle.std.specs.List.{list_any}
use Rattle.pl_world.specs.Selection.{is_too_long}
use Rattle.pl_command.proofs.grids.has_long.Given as goal

abbrev pub invariant-loop-rows : goal.invariant-loop-rows
invariant-loop-rows l =
    list_any (λ row. list_any is_too_long row) l.rows ≡ list_any (λ row. list_any is_too_long row) l.fn.rows

abbrev pub decreases-loop-rows : goal.decreases-loop-rows
decreases-loop-rows l = length l.rows
