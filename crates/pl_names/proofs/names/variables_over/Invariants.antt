use Rattle.std.proofs.Common.{◌≡◌, ◌+◌, length}
use Rattle.pl_names.specs.Names.{variables_named}
use Rattle.pl_names.proofs.names.variables_over.Given as goal

abbrev pub invariant-loop-rest : goal.invariant-loop-rest
invariant-loop-rest l =
    (variables_named l.name l.place l.variables ≡ variables_named l.name l.at l.rest)
    × (l.found ≡ l.fn.found) × (l.at + length l.rest ≡ l.place + length l.variables)

abbrev pub decreases-loop-rest : goal.decreases-loop-rest
decreases-loop-rest l = length l.rest
