use Rattle.std.proofs.Common.{◌≡◌, ◌+◌, false, length}
use Rattle.std.specs.Prelude.{is_some}
use Rattle.pl_direct.specs.Search.{column_of, ty_of}
use Rattle.pl_names.specs.Names.{also, here, variables_named}
use Rattle.pl_direct.proofs.search.variables_named.Given as goal

abbrev pub invariant-loop-rest : goal.invariant-loop-rest
invariant-loop-rest l =
    (variables_named l.name l.place l.variables ≡ also (here (is_some l.found) 0 (column_of l.found) (ty_of l.found) false) (variables_named l.name l.at l.rest))
    × (l.at + length l.rest ≡ l.place + length l.variables)

abbrev pub decreases-loop-rest : goal.decreases-loop-rest
decreases-loop-rest l = length l.rest
