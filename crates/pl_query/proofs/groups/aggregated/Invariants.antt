use Rattle.std.proofs.Common.{◌≡◌, [], drop, map}
use Rattle.pl_groups.specs.Tallies.{answer_at, shown}
use Rattle.pl_query.specs.Rows.{in_turn, with_value}
use Rattle.pl_query.proofs.groups.aggregated.Given as goal

abbrev pub invariant-loop-column : goal.invariant-loop-column
invariant-loop-column g l =
    (left : g.row.C.Denot) → in_turn with_value (map (λ c. answer_at l.place (shown c)) l.columns) [] left
    ≡ in_turn with_value (map (λ c. answer_at l.place (shown c)) (drop l.column-index l.columns)) l.values left
