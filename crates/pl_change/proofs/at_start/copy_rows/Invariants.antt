use Rattle.std.proofs.Common.{◌≡◌, take}
use Rattle.pl_value.specs.Frames.{rows_of}
use Rattle.pl_change.proofs.at_start.copy_rows.Given as goal

abbrev pub invariant-loop-row : goal.invariant-loop-row
invariant-loop-row l = l.copied ≡ rows_of (take l.row-index l.rows)
