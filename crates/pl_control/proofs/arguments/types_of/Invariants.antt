use Rattle.std.proofs.Common.{◌≡◌, ◌++◌, drop}
use Rattle.pl_control.proofs.arguments.types_of.Given as goal
use Rattle.pl_names.specs.Routines.{types_of}

abbrev pub invariant-loop-param : goal.invariant-loop-param
invariant-loop-param l = types_of l.params ≡ l.types ++ types_of (drop l.param-index l.params)
