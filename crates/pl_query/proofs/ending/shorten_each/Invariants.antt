use Rattle.std.proofs.Common.{◌≡◌}
use Rattle.pl_query.proofs.Shortened.{shortened}
use Rattle.pl_query.proofs.ending.shorten_each.Given as goal

abbrev pub invariant-loop-at : goal.invariant-loop-at
invariant-loop-at l = l.rows.items ≡ shortened l.columns l.at l.fn.rows.items
