use Rattle.std.proofs.Common.{◌≡◌, ◌≤◌, ◌<◌, ◌+◌, ◌∙◌, None, Some, List, sym, ap, vec_len, length, rules, arith}
use Rattle.pl_tables.specs.declared.slots.Slot.{Slot}
use Rattle.pl_tables.specs.Slots.{live, row_of, with_row}
use Rattle.pl_tables.proofs.Living.{with_past, has_id, count_filled, count_swapped, length_live, length_with}
use Rattle.pl_tables.proofs.slots.restore.Goals.{in-Some, in-None}
use Rattle.pl_tables.proofs.slots.restore.Goals as goal

pub returns-then-at-len-clause-slots : goal.returns-then-at-len-clause-slots
returns-then-at-len-clause-slots c =
    let ss = c.args.slots.now.items in
    let l : vec_len c.args.slots.now ≡ length ss = search rules in
    sym (with_past ss c.args.at (Some c.args.row) (omega (arith, l, c.len.ensures, c.if-at-len.true)))

pub overflow_add-result : goal.overflow_add-result
overflow_add-result c =
    let ss = c.args.slots.now.items in
    let new = with_row ss c.args.at (Some c.args.row) in
    let l : vec_len c.args.slots.now ≡ length ss = search rules in
    let lt : c.args.at < length ss = omega (arith, l, c.len.ensures, c.if-at-len.false) in
    let id = has_id ss c.args.at lt in
    let none : row_of ss c.args.at ≡ None = sym c.swap_row.ensures.row ∙ c.in-None.is in
    let n : length (live new) ≡ length (live ss) + 1 = count_filled ss c.args.at id.0 c.args.row id.1 none in
    let m : length (live new) ≤ length new = length_live new in
    let k : length new ≡ length ss = length_with ss c.args.at (Some c.args.row) in
    omega (arith, n, m, k, l, c.requires, c.len.ensures, c.len.type_inv)

pub returns-clause-count : goal.returns-clause-count
returns-clause-count c =
    let ss = c.args.slots.now.items in
    let l : vec_len c.args.slots.now ≡ length ss = search rules in
    let lt : c.args.at < length ss = omega (arith, l, c.len.ensures, c.if-at-len.false) in
    let id = has_id ss c.args.at lt in
    let e : length (live c.swap_row.new.slots.items) ≡ length (live (with_row ss c.args.at (Some c.args.row))) = ap (λ (xs : List Slot). length (live xs)) c.swap_row.ensures.slots in
    elim c.match-swap_row.branch [
      | in-Some w ↦ (let n = count_swapped ss c.args.at w.in-Some.field-0 c.args.row (sym c.swap_row.ensures.row ∙ w.in-Some.is) in omega (arith, n, e, c.requires, w.result-is))
      | in-None w ↦ (let n = count_filled ss c.args.at id.0 c.args.row id.1 (sym c.swap_row.ensures.row ∙ w.in-None.is) in omega (arith, n, e, c.requires, w.result-is))
    ]
