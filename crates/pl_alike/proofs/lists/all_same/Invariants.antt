use Rattle.std.proofs.Common.{◌≡◌, drop}
use Rattle.pl_alike.proofs.lists.all_same.Given as goal

abbrev pub invariant-loop-first : goal.invariant-loop-first
invariant-loop-first g l = drop l.first-index l.a ≡ l.rest → l.a ≡ l.b
