use Rattle.std.proofs.Common.{◌≡◌, length}
use Rattle.pl_handlers.proofs.catching.handler_for.Given as goal
use Rattle.pl_conditions.specs.pl_world.Blocks.{handler_for}

abbrev pub invariant-loop-handlers : goal.invariant-loop-handlers
invariant-loop-handlers l = handler_for l.fn.handlers l.f ≡ handler_for l.handlers l.f

abbrev pub decreases-loop-handlers : goal.decreases-loop-handlers
decreases-loop-handlers l = length l.handlers
