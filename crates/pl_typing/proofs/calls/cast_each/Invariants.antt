use Rattle.std.proofs.Common.{◌≡◌, [], length}
use Rattle.pl_typing.specs.Calls.{cast_each}
use Rattle.pl_typing.proofs.calls.cast_each.Given as goal

abbrev pub invariant-loop-ty : goal.invariant-loop-ty
invariant-loop-ty l =
    cast_each [] l.fn.types l.fn.wanted l.fn.list ≡ cast_each l.made l.types l.wanted l.list

abbrev pub decreases-loop-ty : goal.decreases-loop-ty
decreases-loop-ty l = length l.types
