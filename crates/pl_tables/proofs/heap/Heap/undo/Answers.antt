use Rattle.std.proofs.Common.{◌≡◌, ◌++◌, ◌∷◌, [], ◌∙◌, List, ap, ℕ}
use Rattle.pl_history.specs.History.{History, back}
use Rattle.pl_tables.specs.declared.slots.Slot.{Slot}
use Rattle.pl_tables.specs.declared.heap.Change.{Change}
use Rattle.pl_tables.specs.declared.heap.Change.TheVariants.{Added, Changed}
use Rattle.pl_tables.specs.Undo.{kept, undo_one, Kept}
use Rattle.pl_tables.proofs.Kept.{gone_back, ordered_back}
use Rattle.pl_tables.proofs.heap.Heap.undo.Goals as goal

pub invariant_of-self : goal.invariant_of-self
invariant_of-self c =
    let ss = c.self.inside.slots.items in
    let next = c.self.inside.next in
    let is : c.self.inside.changes.items ≡ c.pop.new.self.items ++ Added ∷ [] = c.in-Some-Added.ensures.items ∙ ap (λ (d : Change). c.pop.new.self.items ++ d ∷ []) c.in-Some-Added.field-0-is in
    let new : kept c.pop_slot-self-inside.new.slots.items c.saturating_sub-self-inside.result ≡ undo_one Added (kept ss next) = ap (λ (xs : List Slot). kept xs c.saturating_sub-self-inside.result) c.pop_slot-self-inside.ensures.slots ∙ ap (λ (n : ℕ). record { slots = (undo_one Added (kept ss next)).slots; next = n }) c.saturating_sub-self-inside.ensures in
    let both = ordered_back c.pop.new.self.items c.self.inside.changes.items Added (kept ss next) is (kept c.pop_slot-self-inside.new.slots.items c.saturating_sub-self-inside.result) new c.self.invariant.1 in
    (both.0, both.1, c.pop_slot-self-inside.ensures.count)

pub invariant_of-self-in-Some-Changed : goal.invariant_of-self-in-Some-Changed
invariant_of-self-in-Some-Changed c =
    let ss = c.self.inside.slots.items in
    let next = c.self.inside.next in
    let change = Changed c.in-Some-Changed.at c.in-Some-Changed.row in
    let is : c.self.inside.changes.items ≡ c.pop.new.self.items ++ change ∷ [] = c.in-Some-Changed.ensures.items ∙ ap (λ (d : Change). c.pop.new.self.items ++ d ∷ []) c.in-Some-Changed.field-0-is in
    let new : kept c.restore-self-inside.new.slots.items next ≡ undo_one change (kept ss next) = ap (λ (xs : List Slot). kept xs next) c.restore-self-inside.ensures.slots in
    let both = ordered_back c.pop.new.self.items c.self.inside.changes.items change (kept ss next) is (kept c.restore-self-inside.new.slots.items next) new c.self.invariant.1 in
    (both.0, both.1, c.restore-self-inside.ensures.count)

pub returns-in-Some-Added : goal.returns-in-Some-Added
returns-in-Some-Added c =
    let ss = c.self.inside.slots.items in
    let next = c.self.inside.next in
    let is : c.self.inside.changes.items ≡ c.pop.new.self.items ++ Added ∷ [] = c.in-Some-Added.ensures.items ∙ ap (λ (d : Change). c.pop.new.self.items ++ d ∷ []) c.in-Some-Added.field-0-is in
    let new : kept c.pop_slot-self-inside.new.slots.items c.saturating_sub-self-inside.result ≡ undo_one Added (kept ss next) = ap (λ (xs : List Slot). kept xs c.saturating_sub-self-inside.result) c.pop_slot-self-inside.ensures.slots ∙ ap (λ (n : ℕ). record { slots = (undo_one Added (kept ss next)).slots; next = n }) c.saturating_sub-self-inside.ensures in
    record { back = gone_back c.pop.new.self.items c.self.inside.changes.items Added (kept ss next) is (kept c.pop_slot-self-inside.new.slots.items c.saturating_sub-self-inside.result) new ∙ ap (λ (h : History Kept). back h) c.self.view_is }

pub returns-in-Some-Changed : goal.returns-in-Some-Changed
returns-in-Some-Changed c =
    let ss = c.self.inside.slots.items in
    let next = c.self.inside.next in
    let change = Changed c.in-Some-Changed.at c.in-Some-Changed.row in
    let is : c.self.inside.changes.items ≡ c.pop.new.self.items ++ change ∷ [] = c.in-Some-Changed.ensures.items ∙ ap (λ (d : Change). c.pop.new.self.items ++ d ∷ []) c.in-Some-Changed.field-0-is in
    let new : kept c.restore-self-inside.new.slots.items next ≡ undo_one change (kept ss next) = ap (λ (xs : List Slot). kept xs next) c.restore-self-inside.ensures.slots in
    record { back = gone_back c.pop.new.self.items c.self.inside.changes.items change (kept ss next) is (kept c.restore-self-inside.new.slots.items next) new ∙ ap (λ (h : History Kept). back h) c.self.view_is }
