use Rattle.std.proofs.Common.{◌≤◌, sym, subst}
use Rattle.pl_history.specs.History.{History}
use Rattle.pl_tables.specs.Undo.{kept, Kept}
use Rattle.pl_tables.proofs.Laying.{at_rest_order, rising_above}
use Rattle.pl_tables.proofs.heap.Heap.raise.Goals as goal

pub invariant_of-self : goal.invariant_of-self
invariant_of-self c =
    let ss = c.self.inside.slots.items in
    let le : c.self.inside.next ≤ c.args.next = subst (λ (h : History Kept). h.current.next ≤ c.args.next) (sym c.self.view_is) c.requires in
    (rising_above 0 ss c.self.inside.next c.args.next c.self.invariant.0 le, at_rest_order c.clear.new.self.items (kept ss c.args.next) c.clear.ensures.items, c.self.invariant.2)
