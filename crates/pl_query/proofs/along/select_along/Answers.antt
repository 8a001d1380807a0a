use Rattle.std.proofs.Common.{◌≡◌, ◌∙◌, ◌+◌, refl, sym, ap, subst, suc, ℕ, List, None, Err, ◌∷◌, false, [], Some, length, map, arith}
use Rattle.std.proofs.lemmas.List.{length-map}
use Rattle.pl_groups.specs.Tallies.{shown}
use Rattle.pl_product.specs.Product.{condition}
use Rattle.pl_product.specs.Product.{extended}
use Rattle.pl_query.proofs.Passing.{along_gives, along_stops, pairs_long, row_along}
use Rattle.pl_query.proofs.Kept.{members_of}
use Rattle.pl_query.specs.Along.{along}
use Rattle.pl_query.specs.Query.{grouping}
use Rattle.pl_query.specs.Rows.{Member, grouped, in_turn, selected, with_group, with_member}
use Rattle.pl_query.specs.Running.{Kept, Made, kept, row_read}
use Rattle.pl_resolved.specs.declared.query.RAggregate.{RAggregate}
use Rattle.pl_value.specs.Answers.{Reads}
use Rattle.pl_value.specs.Frames.{Frame, Row, rows_of}
use Rattle.pl_value.specs.Meaning.{value}
use Rattle.pl_value.specs.Reading.{got}
use Rattle.pl_value.specs.Steps.{goes, stops}
use Rattle.pl_value.specs.declared.operand.Lent.{Lent}
use Rattle.pl_query.proofs.along.select_along.Goals as goal

pub returns-in-Ok : goal.returns-in-Ok
returns-in-Ok g c =
    let calls = g.C.Caller.calls in
    let sub = g.S.Subqueries.sub c.args.sub.now in
    let groups = c.args.groups.now in
    let by = grouping calls sub groups in
    let items = map (value calls sub) c.args.items.now in
    let outer = rows_of c.args.outer.now in
    let p = condition calls sub c.args.filter in
    let count = length c.args.outer.now + 1 in
    let count-is : count ≡ suc (length outer) = omega (arith, length-map c.args.outer.now (λ (l : Lent). l.cells.now)) in
    let k-is : kept c.in_ok-made.made ≡ (let k : Kept = record { known = []; firsts = []; columns = map (λ (a : RAggregate). (a.aggregate, [])) groups.aggregates } in k) =
    c.in_ok-made.ensures ∙ ap (λ (as' : List RAggregate). let k : Kept = record { known = []; firsts = []; columns = map (λ (a : RAggregate). (a.aggregate, [])) as' } in k) c.as_slice.ensures in
    let gives = along_gives p c.args.pairs.now count c.args.leaves (rows_of c.args.stands.now) c.args.bundles.now (row_read by count) (row_along calls sub groups c.args.pairs.now c.requires.keys c.requires.stand count) (kept c.in_ok-made.made)
    c.args.caller.now c.add_passing.new.caller (c.in-Ok._passed, kept c.add_passing.new.running)
    (subst (λ (f : Frame). in_turn (along p c.args.pairs.now count f) c.args.bundles.now (0, kept c.in_ok-made.made) c.args.caller.now ≡ got (c.in-Ok._passed, kept c.add_passing.new.running) c.add_passing.new.caller) (ap rows_of c.in_ok-longer.ensures) c.in-Ok.ensures) in
    let read = members_of calls sub groups outer c.args.leaves count count-is gives.0 (kept c.in_ok-made.made) k-is c.add_passing.new.caller c.add_passing.new.caller (kept c.add_passing.new.running) (gives.1.1 c.add_passing.new.caller) in
    goes {A = List Frame} {B = List Row} _ _ (λ frames w. selected (Some by) items outer (c.args.leaves, frames) w) gives.0 c.add_passing.new.caller c.select_groups.result c.select_groups.new.caller refl gives.1.0
    (goes {A = List Member} {B = List Row} _ (in_turn (with_member by) gives.0 [] c.add_passing.new.caller) (λ ms w. in_turn (with_group by items outer c.args.leaves) (grouped by.keys ms) [] w)
    read.0 c.add_passing.new.caller c.select_groups.result c.select_groups.new.caller refl read.1.0
    (c.select_groups.ensures c.args.leaves read.0 (ap rows_of c.as_slice-in-Ok.ensures.value ∙ c.in_ok-empty.ensures) read.1.1))

pub returns : goal.returns
returns g c =
    let calls = g.C.Caller.calls in
    let sub = g.S.Subqueries.sub c.args.sub.now in
    let groups = c.args.groups.now in
    let by = grouping calls sub groups in
    let items = map (value calls sub) c.args.items.now in
    let outer = rows_of c.args.outer.now in
    let stands = rows_of c.args.stands.now in
    let p = condition calls sub c.args.filter in
    let count = length c.args.outer.now + 1 in
    let stopped : Reads {A = ℕ × Kept} (in_turn (along p c.args.pairs.now count stands) c.args.bundles.now (0, kept c.in_ok-made.made) c.args.caller.now) (Err c.in-Err.unsettled) c.add_passing.new.caller =
    subst (λ (f : Frame). Reads {A = ℕ × Kept} (in_turn (along p c.args.pairs.now count f) c.args.bundles.now (0, kept c.in_ok-made.made) c.args.caller.now) (Err c.in-Err.unsettled) c.add_passing.new.caller) (ap rows_of c.in_ok-longer.ensures) c.in-Err.ensures in
    stops {A = List Frame} {B = List Row} _ (extended (record { bundles = c.args.bundles.now; leaves = c.args.leaves; is_left = false; on = None } ∷ []) p stands [] c.args.caller.now) (λ frames w. selected (Some by) items outer (c.args.leaves, frames) w) _ _ refl
    (along_stops p c.args.pairs.now count c.args.leaves stands c.args.bundles.now (row_read by count) (row_along calls sub groups c.args.pairs.now c.requires.keys c.requires.stand count) (kept c.in_ok-made.made) c.args.caller.now _ c.in-Err.unsettled stopped)

pub add_passing-requires-clause-long : goal.add_passing-requires-clause-long
add_passing-requires-clause-long g c =
    let none : RAggregate → Made = λ (a : RAggregate). (a.aggregate, []) in
    sym (length-map c.in_ok-made.made.columns.items shown)
    ∙ (ap (λ (k : Kept). length k.columns) c.in_ok-made.ensures
    ∙ (length-map c.as_slice.result.now none ∙ (ap length c.as_slice.ensures
    ∙ pairs_long g.C.Caller.calls (g.S.Subqueries.sub c.args.sub.now) c.args.groups.now.aggregates c.args.pairs.now c.requires.stand c.args.caller.now)))
