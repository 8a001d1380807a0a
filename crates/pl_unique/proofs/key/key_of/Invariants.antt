use Rattle.std.proofs.Common.{◌≡◌, length}
use Rattle.pl_unique.specs.Key.{key_of}
use Rattle.pl_unique.proofs.Columns.{behind}
use Rattle.pl_unique.proofs.key.key_of.Given as goal

abbrev pub invariant-loop-columns : goal.invariant-loop-columns
invariant-loop-columns l =
    behind l.parts.items (key_of l.columns l.row) ≡ key_of l.fn.columns l.row

abbrev pub decreases-loop-columns : goal.decreases-loop-columns
decreases-loop-columns l = length l.columns
