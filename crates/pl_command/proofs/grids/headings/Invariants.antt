use Rattle.std.proofs.Common.{◌≡◌, map, take}
use Rattle.pl_world.specs.Selection.{heading}
use Rattle.pl_command.proofs.grids.headings.Given as goal

abbrev pub invariant-loop-head : goal.invariant-loop-head
invariant-loop-head l = l.made ≡ map heading (take l.head-index l.heads)
