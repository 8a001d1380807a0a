use Rattle.std.proofs.Common.{◌≡◌, false, length}
use Rattle.std.specs.Prelude.{is_some}
use Rattle.pl_direct.specs.Search.{column_of, ty_of}
use Rattle.pl_names.specs.Names.{here, nearer, variables_within}
use Rattle.pl_direct.proofs.search.variables_within.Given as goal

abbrev pub invariant-loop-rest : goal.invariant-loop-rest
invariant-loop-rest l =
    variables_within l.name 0 l.frames ≡ nearer (variables_within l.name l.place l.rest) (here (is_some l.found) 0 (column_of l.found) (ty_of l.found) false)

abbrev pub decreases-loop-rest : goal.decreases-loop-rest
decreases-loop-rest l = length l.rest
