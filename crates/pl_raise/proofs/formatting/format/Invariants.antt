use Rattle.std.proofs.Common.{◌≡◌, ◌++◌, length}
use Rattle.pl_world.specs.Raising.{formatted}
use Rattle.pl_raise.proofs.formatting.format.Given as goal

abbrev pub invariant-loop-left : goal.invariant-loop-left
invariant-loop-left l = l.made.items ++ formatted l.left l.next ≡ formatted l.fn.format l.fn.texts

abbrev pub decreases-loop-left : goal.decreases-loop-left
decreases-loop-left l = length l.left
