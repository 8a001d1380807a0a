use Rattle.std.proofs.Common.{◌≡◌, [], drop, map}
use Rattle.pl_query.specs.Rows.{in_turn, with_row}
use Rattle.pl_query.specs.Straight.{behind}
use Rattle.pl_value.specs.Frames.{rows_of}
use Rattle.pl_value.specs.Meaning.{value}
use Rattle.pl_query.proofs.straight.list_rows.Given as goal

abbrev pub invariant-loop-at : goal.invariant-loop-at
invariant-loop-at g l =
    let adds = behind (with_row (map (value g.C.Caller.calls (g.S.Subqueries.sub l.sub)) l.items)) (rows_of l.fn.stands.items) in
    record {
      reads : in_turn adds l.bundles [] l.fn.caller ≡ in_turn adds (drop l.at l.bundles) l.rows l.caller;
      stands : rows_of l.stands.items ≡ rows_of l.fn.stands.items;
    }
