use Rattle.std.proofs.Common.{◌≤◌, ◌+◌, List, ℕ, Option, Some, sym, subst, refl}
use Rattle.pl_history.specs.History.{History}
use Rattle.pl_tables.specs.declared.slots.Slot.{Slot}
use Rattle.pl_tables.specs.Slots.{Rising}
use Rattle.pl_tables.specs.Undo.{kept, Kept, MayLay}
use Rattle.pl_tables.proofs.Living.{rising_append, rising_with}
use Rattle.pl_tables.proofs.Laying.{at_rest_order, rising_above}
use Rattle.pl_tables.proofs.heap.Heap.lay.Goals as goal

pub invariant_of-self-in-None : goal.invariant_of-self-in-None
invariant_of-self-in-None c =
    let ss = c.self.inside.slots.items in
    let next = c.self.inside.next in
    let id = c.args.id in
    let s : Slot = record { id = id; row = Some c.args.row } in
    let le : next ≤ id = subst (λ (h : History Kept). h.current.next ≤ id) (sym c.self.view_is) (subst (λ (o : Option ℕ). MayLay o id c.args.self.now.current) c.in-None.is c.requires.place) in (
      subst (λ (xs : List Slot). Rising 0 xs (id + 1)) (sym c.in_ok-self-inside-in-None.ensures.ok) (rising_append 0 ss s id (rising_above 0 ss next id c.self.invariant.0 le) refl),
      at_rest_order c.clear.new.self.items (kept c.push_slot.new.slots.items (id + 1)) c.clear.ensures.items,
      c.in_ok-self-inside-in-None.ensures.count,
    )

pub invariant_of-self-in-Some : goal.invariant_of-self-in-Some
invariant_of-self-in-Some c =
    let ss = c.self.inside.slots.items in
    let next = c.self.inside.next in (
      subst (λ (xs : List Slot). Rising 0 xs next) (sym c.restore-self-inside.ensures.slots) (rising_with 0 ss next c.in-Some.at (Some c.args.row) c.self.invariant.0),
      at_rest_order c.clear.new.self.items (kept c.restore-self-inside.new.slots.items next) c.clear.ensures.items,
      c.restore-self-inside.ensures.count,
    )
