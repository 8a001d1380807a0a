use Rattle.std.proofs.Common.{◌≡◌, ◌∙◌, ◌+◌, refl, sym, ap, subst, List, [], drop, get_or, length, map, Err, arith}
use Rattle.pl_groups.specs.Tallies.{shown}
use Rattle.pl_query.proofs.Kept.{counted, group_is}
use Rattle.pl_query.proofs.Loops.{next, turn_or}
use Rattle.pl_query.specs.Query.{grouping}
use Rattle.pl_query.specs.Rows.{Member, first_rows, grouped, in_turn, with_group}
use Rattle.pl_query.specs.Running.{Kept, count_of, groups_of}
use Rattle.pl_value.specs.Answers.{Reads}
use Rattle.pl_value.specs.Frames.{Row, rows_of}
use Rattle.pl_value.specs.Meaning.{value}
use Rattle.pl_value.specs.Reading.{Reading}
use Rattle.pl_value.specs.Steps.{stops}
use Rattle.pl_query.proofs.groups.select_groups.Goals as goal

pub returns-in-Err : goal.returns-in-Err
returns-in-Err g c leaves ms empty-is kept-is =
    let calls = g.C.Caller.calls in
    let sub = g.S.Subqueries.sub c.args.sub.now in
    let by = grouping calls sub c.args.groups.now in
    let items = map (value calls sub) c.args.items.now in
    let outer = rows_of c.args.outer.now in
    let place = c.loop-place.place in
    let gs : List (List Member) = grouped by.keys ms in
    let adds = with_group by items outer leaves in
    let firsts-are : c.args.made.now.firsts ≡ map (first_rows outer leaves) (groups_of by.keys ms) = ap (λ (k : Kept). k.firsts) kept-is in
    let count : c.count_of-place-end.result ≡ length gs =
    c.count_of-place-end.ensures ∙ (ap (count_of c.args.groups.now.keys) firsts-are ∙ counted (value calls sub) c.args.groups.now.keys ms outer leaves) in
    let here = turn_or adds gs place [] (omega (arith, c.loop-place-test.true, count)) c.loop-place.rows c.loop-place.caller (c.loop-place.invariant leaves ms empty-is kept-is) in
    let group = group_is by items outer leaves ms shown c.as_slice.result.now c.args.made.now.firsts (rows_of c.args.empty.now) (ap (map shown) c.as_slice.ensures.value ∙ ap (λ (k : Kept). k.columns) kept-is) firsts-are empty-is
    place outer (rows_of c.rows_at.result.now) c.loop-place.rows c.loop-place.caller refl c.rows_at.ensures in
    stops {A = List Row} {B = List Row} _ (adds (get_or gs place []) c.loop-place.rows c.loop-place.caller) (λ done w. in_turn adds (drop (place + 1) gs) done w) _ _ here
    (subst (λ (q : Reading _ (List Row)). Reads {A = List Row} q (Err c.in-Err.unsettled) c.add_group.new.caller) group c.in-Err.ensures)

pub loop-place-preserved : goal.loop-place-preserved
loop-place-preserved g c leaves ms empty-is kept-is =
    let calls = g.C.Caller.calls in
    let sub = g.S.Subqueries.sub c.args.sub.now in
    let by = grouping calls sub c.args.groups.now in
    let items = map (value calls sub) c.args.items.now in
    let outer = rows_of c.args.outer.now in
    let place = c.loop-place.place in
    let gs : List (List Member) = grouped by.keys ms in
    let adds = with_group by items outer leaves in
    let firsts-are : c.args.made.now.firsts ≡ map (first_rows outer leaves) (groups_of by.keys ms) = ap (λ (k : Kept). k.firsts) kept-is in
    let count : c.count_of-place-end.result ≡ length gs =
    c.count_of-place-end.ensures ∙ (ap (count_of c.args.groups.now.keys) firsts-are ∙ counted (value calls sub) c.args.groups.now.keys ms outer leaves) in
    let here = turn_or adds gs place [] (omega (arith, c.loop-place-test.true, count)) c.loop-place.rows c.loop-place.caller (c.loop-place.invariant leaves ms empty-is kept-is) in
    let group = group_is by items outer leaves ms shown c.as_slice.result.now c.args.made.now.firsts (rows_of c.args.empty.now) (ap (map shown) c.as_slice.ensures.value ∙ ap (λ (k : Kept). k.columns) kept-is) firsts-are empty-is
    place outer (rows_of c.rows_at.result.now) c.loop-place.rows c.loop-place.caller refl c.rows_at.ensures in
    next (adds (get_or gs place []) c.loop-place.rows c.loop-place.caller) (λ done w. in_turn adds (drop (place + 1) gs) done w) c.in-Ok.more c.add_group.new.caller here
    (sym group ∙ c.in-Ok.ensures)
