use Rattle.std.proofs.Common.{◌≡◌, ◌++◌, length}
use Rattle.pl_ddl.specs.Definition.{places}
use Rattle.pl_ddl.proofs.making.places.Given as goal

abbrev pub invariant-loop-key : goal.invariant-loop-key
invariant-loop-key l =
    places l.columns l.fn.key ≡ l.made ++ places l.columns l.key

abbrev pub decreases-loop-key : goal.decreases-loop-key
decreases-loop-key l = length l.key
