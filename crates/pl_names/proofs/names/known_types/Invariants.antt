use Rattle.std.proofs.Common.{◌≡◌, [], length}
use Rattle.pl_names.specs.Names.{around, known_types}
use Rattle.pl_names.proofs.names.known_types.Given as goal

abbrev pub invariant-loop-types : goal.invariant-loop-types
invariant-loop-types l =
    known_types [] l.fn.types (around l.names) ≡ known_types l.known l.types (around l.names)

abbrev pub decreases-loop-types : goal.decreases-loop-types
decreases-loop-types l = length l.types
