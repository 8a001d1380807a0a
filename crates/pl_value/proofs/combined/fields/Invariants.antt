use Rattle.std.proofs.Common.{◌≡◌, ◌++◌, length}
use Rattle.pl_value.specs.Combined.{fields}
use Rattle.pl_value.proofs.combined.fields.Given as goal

abbrev pub invariant-loop-ty : goal.invariant-loop-ty
invariant-loop-ty l = fields l.fn.types l.fn.values ≡ l.list ++ fields l.types l.values

abbrev pub decreases-loop-ty : goal.decreases-loop-ty
decreases-loop-ty l = length l.types
