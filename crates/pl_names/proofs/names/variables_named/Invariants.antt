use Rattle.std.proofs.Common.{◌≡◌, ◌+◌, length}
use Rattle.pl_names.specs.Names.{also, variables_named}
use Rattle.pl_names.proofs.names.variables_named.Given as goal

abbrev pub invariant-loop-rest : goal.invariant-loop-rest
invariant-loop-rest l = (variables_named l.name l.place l.variables ≡ also l.found (variables_named l.name l.at l.rest)) × (l.at + length l.rest ≡ l.place + length l.variables)

abbrev pub decreases-loop-rest : goal.decreases-loop-rest
decreases-loop-rest l = length l.rest
