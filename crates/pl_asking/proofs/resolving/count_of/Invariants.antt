use Rattle.std.proofs.Common.{◌≡◌, ◌+◌, length}
use Rattle.pl_asking.proofs.resolving.count_of.Given as goal
use Rattle.pl_world.specs.Variables.{variables_of}

abbrev pub invariant-loop-blocks : goal.invariant-loop-blocks
invariant-loop-blocks l = l.count + variables_of l.blocks ≡ variables_of l.fn.blocks

abbrev pub decreases-loop-blocks : goal.decreases-loop-blocks
decreases-loop-blocks l = length l.blocks
