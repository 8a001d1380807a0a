use Rattle.std.proofs.Common.{◌≡◌, map, take}
use Rattle.pl_tree.specs.declared.command.Param.{Param}
use Rattle.pl_declared.proofs.parameters.types_of.Given as goal

abbrev pub invariant-loop-param : goal.invariant-loop-param
invariant-loop-param l = l.made ≡ map (λ (p : Param). p.ty) (take l.param-index l.params)
