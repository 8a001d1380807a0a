use Rattle.std.proofs.Common.{◌≡◌, [], drop}
use Rattle.pl_body_rules.specs.Declaring.{declared}
use Rattle.pl_body_rules.proofs.declaring.declare.Given as goal

abbrev pub invariant-loop-declaration : goal.invariant-loop-declaration
invariant-loop-declaration l = declared l.label l.declarations l.outer [] ≡ declared l.label (drop l.declaration-index l.declarations) l.outer l.variables
