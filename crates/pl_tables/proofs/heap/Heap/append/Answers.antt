use Rattle.std.proofs.Common.{◌≡◌, ◌+◌, ◌++◌, ◌∷◌, [], ◌∙◌, refl, Some, List, sym, ap, subst, length, arith}
use Rattle.pl_history.specs.History.{History, changed, history}
use Rattle.pl_tables.specs.declared.slots.Slot.{Slot}
use Rattle.pl_tables.specs.declared.heap.Change.{Change}
use Rattle.pl_tables.specs.declared.heap.Change.TheVariants.{Added}
use Rattle.pl_tables.specs.Slots.{live, Rising}
use Rattle.pl_tables.specs.Undo.{kept, undo_one, with_slot, Kept}
use Rattle.pl_tables.proofs.Living.{rising_append, count_popped}
use Rattle.pl_tables.proofs.Kept.{gone_on, ordered_on, back_added}
use Rattle.pl_tables.proofs.heap.Heap.append.Goals as goal

pub invariant_of-self-2 : goal.invariant_of-self-2
invariant_of-self-2 c =
    let ss = c.self.inside.slots.items in
    let cs = c.self.inside.changes.items in
    let next = c.self.inside.next in
    let s : Slot = record { id = next; row = Some c.args.row } in
    let slots : c.push_reserved.new.self.items ≡ ss ++ s ∷ [] = c.push_reserved.ensures.items ∙ ap (λ (xs : List Slot). xs ++ s ∷ []) c.reserve-2.ensures.items in
    let is : c.push_reserved-2.new.self.items ≡ cs ++ Added ∷ [] = c.push_reserved-2.ensures.items ∙ ap (λ (ds : List Change). ds ++ Added ∷ []) c.reserve.ensures.items in
    let undone : undo_one Added (kept c.push_reserved.new.self.items (next + 1)) ≡ kept ss next = ap (λ (xs : List Slot). undo_one Added (kept xs (next + 1))) slots ∙ back_added ss s next in
    let n : length (live c.push_reserved.new.self.items) ≡ length (live (ss ++ s ∷ [])) = ap (λ (xs : List Slot). length (live xs)) slots in
    let m : length (live (ss ++ s ∷ [])) ≡ length (live ss) + 1 = count_popped ss s in (
      subst (λ (xs : List Slot). Rising 0 xs (next + 1)) (sym slots) (rising_append 0 ss s next c.self.invariant.0 refl),
      ordered_on cs c.push_reserved-2.new.self.items Added (kept ss next) (kept c.push_reserved.new.self.items (next + 1)) is undone c.self.invariant.1 c.self.invariant.0,
      omega (arith, n, m, c.self.invariant.2),
    )

pub returns-clause-ok : goal.returns-clause-ok
returns-clause-ok c =
    let ss = c.self.inside.slots.items in
    let cs = c.self.inside.changes.items in
    let next = c.self.inside.next in
    let s : Slot = record { id = next; row = Some c.args.row } in
    let slots : c.push_reserved.new.self.items ≡ ss ++ s ∷ [] = c.push_reserved.ensures.items ∙ ap (λ (xs : List Slot). xs ++ s ∷ []) c.reserve-2.ensures.items in
    let is : c.push_reserved-2.new.self.items ≡ cs ++ Added ∷ [] = c.push_reserved-2.ensures.items ∙ ap (λ (ds : List Change). ds ++ Added ∷ []) c.reserve.ensures.items in
    let undone : undo_one Added (kept c.push_reserved.new.self.items (next + 1)) ≡ kept ss next = ap (λ (xs : List Slot). undo_one Added (kept xs (next + 1))) slots ∙ back_added ss s next in
    gone_on cs c.push_reserved-2.new.self.items Added (kept ss next) (kept c.push_reserved.new.self.items (next + 1)) is undone
    ∙ (ap (λ (xs : List Slot). changed (kept xs (next + 1)) (history undo_one cs (kept ss next))) slots
    ∙ ap (λ (h : History Kept). changed (with_slot c.args.row h.current) h) c.self.view_is)
