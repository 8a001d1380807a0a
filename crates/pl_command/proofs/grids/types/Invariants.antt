use Rattle.std.proofs.Common.{◌≡◌, map, take}
use Rattle.pl_world.specs.Selection.{type_in}
use Rattle.pl_command.proofs.grids.types.Given as goal

abbrev pub invariant-loop-head : goal.invariant-loop-head
invariant-loop-head l = l.made ≡ map type_in (take l.head-index l.heads)
