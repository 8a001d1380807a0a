use Rattle.std.proofs.Common.{◌≡◌, drop, length}
use Rattle.pl_query.specs.Query.{grouping}
use Rattle.pl_query.specs.Rows.{in_turn}
use Rattle.pl_query.specs.Running.{kept, row_read}
use Rattle.pl_query.specs.Straight.{behind}
use Rattle.pl_value.specs.Frames.{rows_of}
use Rattle.pl_query.proofs.straight.group_rows.Given as goal

abbrev pub invariant-loop-at : goal.invariant-loop-at
invariant-loop-at g l =
    let adds = behind (row_read (grouping g.C.Caller.calls (g.S.Subqueries.sub l.sub) l.groups) l.count) (rows_of l.fn.stands.items) in
    record {
      reads : in_turn adds l.bundles (kept l.fn.running) l.fn.caller ≡ in_turn adds (drop l.at l.bundles) (kept l.running) l.caller;
      stands : rows_of l.stands.items ≡ rows_of l.fn.stands.items;
      long : length l.running.columns.items ≡ length l.groups.aggregates;
    }
