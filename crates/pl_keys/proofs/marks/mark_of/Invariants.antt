use Rattle.std.proofs.Common.{◌≡◌, fold, take}
use Rattle.pl_keys.specs.Marks.{with_value}
use Rattle.pl_keys.proofs.marks.mark_of.Given as goal

abbrev pub invariant-loop-v : goal.invariant-loop-v
invariant-loop-v l = l.mark ≡ fold with_value 0 (take l.v-index l.row)
