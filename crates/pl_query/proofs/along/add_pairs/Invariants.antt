use Rattle.std.proofs.Common.{◌≡◌, ◌++◌, drop, length, map, take}
use Rattle.pl_groups.specs.Tallies.{shown}
use Rattle.pl_query.specs.Along.{pair_in}
use Rattle.pl_query.specs.Running.{columns_with}
use Rattle.pl_value.specs.Frames.{rows_of}
use Rattle.pl_query.proofs.along.add_pairs.Given as goal

abbrev pub invariant-loop-at : goal.invariant-loop-at
invariant-loop-at l =
    let f = pair_in (rows_of l.frame) in
    record {
      columns : columns_with 0 (map f l.pairs) (map shown l.fn.columns.items) ≡ map shown (take l.at l.columns.items) ++ columns_with 0 (map f (drop l.at l.pairs)) (map shown (drop l.at l.columns.items));
      long : length l.columns.items ≡ length l.pairs;
    }
