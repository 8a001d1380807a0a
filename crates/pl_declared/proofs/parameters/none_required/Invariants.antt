use Rattle.std.proofs.Common.{◌≡◌, ◌+◌, false, replicate}
use Rattle.pl_declared.proofs.parameters.none_required.Given as goal

abbrev pub invariant-loop-param : goal.invariant-loop-param
invariant-loop-param l = l.made.items ≡ replicate (l._param-index + 1) false
