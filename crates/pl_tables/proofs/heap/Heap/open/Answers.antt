use Rattle.std.proofs.Common.{◌≡◌, ◌<◌, ◌∙◌, List, None, length, sym, ap, subst, arith}
use Rattle.std.specs.Prelude.{insert}
use Rattle.pl_history.specs.History.{History}
use Rattle.pl_tables.specs.declared.slots.Slot.{Slot}
use Rattle.pl_tables.specs.Slots.{live, Rising}
use Rattle.pl_tables.specs.Undo.{kept, IsGap, Kept}
use Rattle.pl_tables.proofs.Laying.{at_rest_order, live_gap, rising_gap}
use Rattle.pl_tables.proofs.heap.Heap.open.Goals.{in-Ok, in-Err}
use Rattle.pl_tables.proofs.heap.Heap.open.Goals as goal

pub invariant_of-self : goal.invariant_of-self
invariant_of-self c =
    let ss = c.self.inside.slots.items in
    let next = c.self.inside.next in
    let gap : Slot = record { id = c.args.id; row = None } in
    let g : IsGap c.args.id c.args.at ss = subst (λ (h : History Kept). IsGap c.args.id c.args.at h.current.slots) (sym c.self.view_is) c.requires.gap in
    let below : c.args.id < next = subst (λ (h : History Kept). c.args.id < h.current.next) (sym c.self.view_is) c.requires.below in
    elim c.match-insert.branch [
      | in-Ok w ↦ (let is : c.insert.new.self.items ≡ insert ss c.args.at gap = w.in-Ok.ensures.items in (
        subst (λ (xs : List Slot). Rising 0 xs next) (sym is) (rising_gap c.args.id 0 ss next c.args.at c.self.invariant.0 (omega arith) below g),
        at_rest_order c.clear.new.self.items (kept c.insert.new.self.items next) c.clear.ensures.items,
        c.self.invariant.2 ∙ sym (ap (λ (xs : List Slot). length (live xs)) is ∙ ap (λ xs. length xs) (live_gap c.args.id ss c.args.at g.within)),
      ))
      | in-Err w ↦ (let is : c.insert.new.self.items ≡ ss = w.in-Err.ensures.items in (
        subst (λ (xs : List Slot). Rising 0 xs next) (sym is) c.self.invariant.0,
        at_rest_order c.clear.new.self.items (kept c.insert.new.self.items next) c.clear.ensures.items,
        c.self.invariant.2 ∙ sym (ap (λ (xs : List Slot). length (live xs)) is),
      ))
    ]
