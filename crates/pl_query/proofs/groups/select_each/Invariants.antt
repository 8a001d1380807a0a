use Rattle.std.proofs.Common.{◌≡◌, [], drop, map}
use Rattle.pl_query.specs.Rows.{in_turn, with_row}
use Rattle.pl_value.specs.Meaning.{value}
use Rattle.pl_query.proofs.groups.select_each.Given as goal

abbrev pub invariant-loop-at : goal.invariant-loop-at
invariant-loop-at g l =
    let adds = with_row (map (value g.C.Caller.calls (g.S.Subqueries.sub l.sub)) l.items) in
    in_turn adds l.frames [] l.fn.caller ≡ in_turn adds (drop l.at l.frames) l.rows l.caller
