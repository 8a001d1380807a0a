use Rattle.std.proofs.Common.{◌≡◌, ◌∙◌, ◌+◌, refl, sym, ap, suc, List, [], length, map, arith}
use Rattle.std.proofs.lemmas.List.{length-map}
use Rattle.pl_groups.specs.Tallies.{shown}
use Rattle.pl_query.proofs.Kept.{members_of, members_stop}
use Rattle.pl_query.specs.Query.{grouping}
use Rattle.pl_query.specs.Rows.{Member, grouped, in_turn, with_group, with_member}
use Rattle.pl_query.specs.Running.{Kept, Made, kept}
use Rattle.pl_query.specs.Straight.{each}
use Rattle.pl_resolved.specs.declared.query.RAggregate.{RAggregate}
use Rattle.pl_value.specs.Frames.{Row, rows_of}
use Rattle.pl_value.specs.Meaning.{value}
use Rattle.pl_value.specs.Steps.{goes, stops}
use Rattle.pl_value.specs.declared.operand.Lent.{Lent}
use Rattle.pl_query.proofs.straight.group_straight.Goals as goal

pub group_each-requires-clause-columns : goal.group_each-requires-clause-columns
group_each-requires-clause-columns g c =
    let none : RAggregate → Made = λ (a : RAggregate). (a.aggregate, []) in
    sym (length-map c.in_ok-made.made.columns.items shown)
    ∙ (ap (λ (k : Kept). length k.columns) c.in_ok-made.ensures
    ∙ (length-map c.as_slice.result.now none ∙ ap length c.as_slice.ensures))

pub returns-in-Ok : goal.returns-in-Ok
returns-in-Ok g c =
    let calls = g.C.Caller.calls in
    let sub = g.S.Subqueries.sub c.args.sub.now in
    let groups = c.args.groups.now in
    let by = grouping calls sub groups in
    let items = map (value calls sub) c.args.items.now in
    let outer = rows_of c.args.outer.now in
    let frames = each (rows_of c.args.stands.now) c.args.bundles.now in
    let count-is : length c.args.outer.now + 1 ≡ suc (length outer) = omega (arith, length-map c.args.outer.now (λ (l : Lent). l.cells.now)) in
    let k-is : kept c.in_ok-made.made ≡ (let k : Kept = record { known = []; firsts = []; columns = map (λ (a : RAggregate). (a.aggregate, [])) groups.aggregates } in k) =
    c.in_ok-made.ensures ∙ ap (λ (as' : List RAggregate). let k : Kept = record { known = []; firsts = []; columns = map (λ (a : RAggregate). (a.aggregate, [])) as' } in k) c.as_slice.ensures in
    let read = members_of calls sub groups outer c.args.leaves (length c.args.outer.now + 1) count-is frames (kept c.in_ok-made.made) k-is c.args.caller.now c.group_each.new.caller (kept c.group_each.new.running) c.in-Ok.ensures in
    goes {A = List Member} {B = List Row} _ (in_turn (with_member by) frames [] c.args.caller.now) (λ ms w. in_turn (with_group by items outer c.args.leaves) (grouped by.keys ms) [] w)
    read.0 c.group_each.new.caller c.select_groups.result c.select_groups.new.caller refl read.1.0
    (c.select_groups.ensures c.args.leaves read.0 (ap rows_of c.as_slice-in-Ok.ensures.value ∙ c.in_ok-empty.ensures) read.1.1)

pub returns : goal.returns
returns g c =
    let calls = g.C.Caller.calls in
    let sub = g.S.Subqueries.sub c.args.sub.now in
    let groups = c.args.groups.now in
    let by = grouping calls sub groups in
    let items = map (value calls sub) c.args.items.now in
    let outer = rows_of c.args.outer.now in
    let frames = each (rows_of c.args.stands.now) c.args.bundles.now in
    let count-is : length c.args.outer.now + 1 ≡ suc (length outer) = omega (arith, length-map c.args.outer.now (λ (l : Lent). l.cells.now)) in
    let k-is : kept c.in_ok-made.made ≡ (let k : Kept = record { known = []; firsts = []; columns = map (λ (a : RAggregate). (a.aggregate, [])) groups.aggregates } in k) =
    c.in_ok-made.ensures ∙ ap (λ (as' : List RAggregate). let k : Kept = record { known = []; firsts = []; columns = map (λ (a : RAggregate). (a.aggregate, [])) as' } in k) c.as_slice.ensures in
    stops {A = List Member} {B = List Row} _ (in_turn (with_member by) frames [] c.args.caller.now) (λ ms w. in_turn (with_group by items outer c.args.leaves) (grouped by.keys ms) [] w) _ _ refl
    (members_stop calls sub groups outer c.args.leaves (length c.args.outer.now + 1) count-is frames (kept c.in_ok-made.made) k-is c.args.caller.now _ c.in-Err.unsettled c.in-Err.ensures)
