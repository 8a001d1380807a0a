use Rattle.std.proofs.Common.{◌≡◌, length}
use Rattle.pl_typing.specs.Casts.{cast_through}
use Rattle.pl_typing.proofs.casts.cast_through.Given as goal

abbrev pub invariant-loop-types : goal.invariant-loop-types
invariant-loop-types l = cast_through l.fn.ty l.fn.types ≡ cast_through l.from l.types

abbrev pub decreases-loop-types : goal.decreases-loop-types
decreases-loop-types l = length l.types
