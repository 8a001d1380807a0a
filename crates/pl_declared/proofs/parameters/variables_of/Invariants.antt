use Rattle.std.proofs.Common.{◌≡◌, map, take}
use Rattle.pl_world.specs.Variables.{parameter}
use Rattle.pl_declared.proofs.parameters.variables_of.Given as goal

abbrev pub invariant-loop-param : goal.invariant-loop-param
invariant-loop-param l = l.made ≡ map parameter (take l.param-index l.params)
