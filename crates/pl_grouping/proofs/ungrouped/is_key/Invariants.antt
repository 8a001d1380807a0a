use Rattle.std.proofs.Common.{◌≡◌, length}
use Rattle.pl_grouping.specs.Columns.{is_one_of}
use Rattle.pl_grouping.proofs.ungrouped.is_key.Given as goal

abbrev pub invariant-loop-keys : goal.invariant-loop-keys
invariant-loop-keys l = is_one_of l.fn.keys l.tree ≡ is_one_of l.keys l.tree

abbrev pub decreases-loop-keys : goal.decreases-loop-keys
decreases-loop-keys l = length l.keys
