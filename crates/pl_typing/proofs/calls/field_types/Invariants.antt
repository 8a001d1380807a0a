use Rattle.std.proofs.Common.{◌≡◌, [], length}
use Rattle.pl_typing.specs.Calls.{field_types}
use Rattle.pl_typing.proofs.calls.field_types.Given as goal

abbrev pub invariant-loop-types : goal.invariant-loop-types
invariant-loop-types l = field_types [] l.fn.types ≡ field_types l.made l.types

abbrev pub decreases-loop-types : goal.decreases-loop-types
decreases-loop-types l = length l.types
