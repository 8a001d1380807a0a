use Rattle.std.proofs.Common.{◌≡◌, drop, map}
use Rattle.pl_asking.proofs.resolving.listed_on.Given as goal
use Rattle.pl_calling.specs.pl_names.Names.{around}
use Rattle.pl_direct.specs.pl_scope.Expressions.{listed_on}
use Rattle.pl_direct.specs.pl_scope.Resolution.{part}

abbrev pub invariant-loop-e : goal.invariant-loop-e
invariant-loop-e l = listed_on (map part l.list) l.fn.first (around l.names) l.fn.made ≡ listed_on (map part (drop l.e-index l.list)) l.done (around l.names) l.made
