use Rattle.std.proofs.Common.{◌≡◌, length, take}
use Rattle.pl_query.proofs.ending.shorten.Given as goal

abbrev pub invariant-loop-row : goal.invariant-loop-row
invariant-loop-row l = take l.columns l.row ≡ take l.columns l.fn.row

abbrev pub decreases-loop-row : goal.decreases-loop-row
decreases-loop-row l = length l.row
