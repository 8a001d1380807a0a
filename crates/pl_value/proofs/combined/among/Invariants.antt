use Rattle.std.proofs.Common.{◌≡◌, false, length}
use Rattle.pl_value.specs.Combined.{among}
use Rattle.pl_value.proofs.combined.among.Given as goal

abbrev pub invariant-loop-first : goal.invariant-loop-first
invariant-loop-first l = among l.to l.x false l.values ≡ among l.to l.x l.has_null l.rest

abbrev pub decreases-loop-first : goal.decreases-loop-first
decreases-loop-first l = length l.rest
