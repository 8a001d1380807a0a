use Rattle.std.proofs.Common.{◌≡◌, ℕ, List, [], drop, map, replicate}
use Rattle.pl_query.specs.Query.{grouping}
use Rattle.pl_query.specs.Rows.{Member, grouped, in_turn, with_group}
use Rattle.pl_query.specs.Running.{kept, kept_of}
use Rattle.pl_value.specs.Frames.{rows_of}
use Rattle.pl_value.specs.Meaning.{value}
use Rattle.pl_query.proofs.groups.select_groups.Given as goal

abbrev pub invariant-loop-place : goal.invariant-loop-place
invariant-loop-place g l =
    let calls = g.C.Caller.calls in
    let sub = g.S.Subqueries.sub l.sub in
    let by = grouping calls sub l.groups in
    (leaves : ℕ) (ms : List Member) → rows_of l.empty ≡ replicate leaves [] → kept l.made ≡ kept_of by (rows_of l.outer) leaves ms
    → in_turn (with_group by (map (value calls sub) l.items) (rows_of l.outer) leaves) (grouped by.keys ms) [] l.fn.caller
    ≡ in_turn (with_group by (map (value calls sub) l.items) (rows_of l.outer) leaves) (drop l.place (grouped by.keys ms)) l.rows l.caller
