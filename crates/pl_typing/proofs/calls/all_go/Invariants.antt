use Rattle.std.proofs.Common.{◌≡◌, length}
use Rattle.pl_typing.specs.Calls.{all_go}
use Rattle.pl_typing.proofs.calls.all_go.Given as goal

abbrev pub invariant-loop-ty : goal.invariant-loop-ty
invariant-loop-ty l = all_go l.fn.types l.fn.wanted ≡ all_go l.types l.wanted

abbrev pub decreases-loop-ty : goal.decreases-loop-ty
decreases-loop-ty l = length l.types
