use Rattle.std.proofs.Common.{◌≡◌, length}
use Rattle.pl_base.specs.declared.value.Value.TheVariants.{Null}
use Rattle.pl_value.specs.Combined.{best}
use Rattle.pl_value.proofs.combined.best.Given as goal

abbrev pub invariant-loop-first : goal.invariant-loop-first
invariant-loop-first l = best l.op l.to Null l.values ≡ best l.op l.to l.so_far l.rest

abbrev pub decreases-loop-first : goal.decreases-loop-first
decreases-loop-first l = length l.rest
