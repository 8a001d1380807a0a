use Rattle.std.proofs.Common.{◌≡◌, ◌++◌, drop}
use Rattle.pl_names.specs.Routines.{types_of}
use Rattle.pl_names.proofs.routines.types_of.Given as goal

abbrev pub invariant-loop-param : goal.invariant-loop-param
invariant-loop-param l = types_of l.params ≡ l.types ++ types_of (drop l.param-index l.params)
