use Rattle.std.proofs.Common.{◌≡◌, ◌∙◌, [], List, Some, length, sym, ap, subst, arith}
use Rattle.std.specs.List.{AllByRecursion}
use Rattle.pl_history.specs.History.{History}
use Rattle.pl_tables.specs.declared.slots.Slot.{Slot}
use Rattle.pl_tables.specs.Slots.{id_at}
use Rattle.pl_tables.specs.Undo.{at_rest, content, kept, with_gap, InStep, Kept}
use Rattle.pl_tables.proofs.Laying.{gap_content, id_gap}
use Rattle.pl_tables.proofs.putting.place_for.Goals as goal

pub keys_with_gap-requires : goal.keys_with_gap-requires
keys_with_gap-requires c =
    let g = c.seek.ensures.gap c.in-Err.at c.in-Err.is in
    let n : length c.slots.result.now ≡ length c.args.heap.now.current.slots = ap (λ (l : List Slot). length l) c.slots.ensures.slots in
    omega (arith, n, g.within)

pub open-requires : goal.open-requires
open-requires c = record { gap = c.seek.ensures.gap c.in-Err.at c.in-Err.is; below = (let n = c.next.ensures in omega (arith, n, c.if-id-next.false)) }

pub returns-in_ok-open-in-Err-clause-step : goal.returns-in_ok-open-in-Err-clause-step
returns-in_ok-open-in-Err-clause-step c =
    let h = c.args.heap.now in
    let at = c.in-Err.at in
    let wider : AllByRecursion (InStep (at_rest (with_gap at c.args.id (kept c.slots.result.now h.current.next)))) c.in_ok-wider-in-Err.wider.items = c.in_ok-wider-in-Err.ensures.step c.args.id h.current.next in
    subst (λ (g : History Kept). AllByRecursion (InStep g) c.in_ok-wider-in-Err.wider.items) (sym c.in_ok-open-in-Err.ensures.ok)
    (subst (λ (l : List Slot). AllByRecursion (InStep (at_rest (with_gap at c.args.id (kept l h.current.next)))) c.in_ok-wider-in-Err.wider.items) c.slots.ensures.slots wider)

pub returns-in_ok-open-in-Err-clause-place : goal.returns-in_ok-open-in-Err-clause-place
returns-in_ok-open-in-Err-clause-place c =
    let h = c.args.heap.now in
    let at = c.in-Err.at in
    let g = c.seek.ensures.gap at c.in-Err.is in
    subst (λ (n : History Kept). id_at n.current.slots at ≡ Some c.args.id) (sym c.in_ok-open-in-Err.ensures.ok) (id_gap c.args.id h.current.slots at g.within)

pub returns-in_ok-open-in-Err-clause-content : goal.returns-in_ok-open-in-Err-clause-content
returns-in_ok-open-in-Err-clause-content c =
    let h = c.args.heap.now in
    let at = c.in-Err.at in
    let g = c.seek.ensures.gap at c.in-Err.is in
    ap (λ (n : History Kept). content [] n.current) c.in_ok-open-in-Err.ensures.ok ∙ gap_content at c.args.id h.current g.within
