use Rattle.std.proofs.Common.{◌≡◌, length}
use Rattle.pl_value.specs.Combined.{cast_through}
use Rattle.pl_value.proofs.operations.cast_through.Given as goal

abbrev pub invariant-loop-first : goal.invariant-loop-first
invariant-loop-first l = cast_through l.fn.types l.fn.v ≡ cast_through l.rest l.v

abbrev pub decreases-loop-first : goal.decreases-loop-first
decreases-loop-first l = length l.rest
