use Rattle.std.proofs.Common.{◌≡◌, map, take}
use Rattle.pl_value.specs.Frames.{first_or_null}
use Rattle.pl_value.proofs.expression.first_values.Given as goal

abbrev pub invariant-loop-row : goal.invariant-loop-row
invariant-loop-row l = l.values ≡ map first_or_null (take l.row-index l.rows)
