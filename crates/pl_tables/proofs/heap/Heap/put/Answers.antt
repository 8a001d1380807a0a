use Rattle.std.proofs.Common.{◌≡◌, ◌≤◌, ◌++◌, ◌∷◌, [], ◌∙◌, Option, Some, List, sym, ap, subst, length, arith}
use Rattle.std.specs.Prelude.{IsSome}
use Rattle.pl_base.specs.declared.value.Value.{Value}
use Rattle.pl_history.specs.History.{History, changed, history}
use Rattle.pl_tables.specs.declared.slots.Slot.{Slot}
use Rattle.pl_tables.specs.declared.heap.Change.{Change}
use Rattle.pl_tables.specs.declared.heap.Change.TheVariants.{Changed}
use Rattle.pl_tables.specs.Slots.{live, row_of, with_row, Rising}
use Rattle.pl_tables.specs.Undo.{kept, undo_one, with_row_at, Kept}
use Rattle.pl_tables.proofs.Living.{rising_with, count_put, place_within, not_some, some_live}
use Rattle.pl_tables.proofs.Kept.{gone_on, ordered_on, back_changed}
use Rattle.pl_tables.proofs.heap.Heap.put.Goals as goal

pub rows_after-count-requires : goal.rows_after-count-requires
rows_after-count-requires c =
    let ss = c.self.inside.slots.items in
    let there : IsSome (row_of ss c.args.at) = subst (λ (h : History Kept). IsSome (row_of h.current.slots c.args.at)) (sym c.self.view_is) c.requires.there in
    let n : 1 ≤ length (live ss) = some_live ss c.args.at there in
    omega (arith, n, c.self.invariant.2)

pub swap_row-requires : goal.swap_row-requires
swap_row-requires c =
    let ss = c.self.inside.slots.items in
    let there : IsSome (row_of ss c.args.at) = subst (λ (h : History Kept). IsSome (row_of h.current.slots c.args.at)) (sym c.self.view_is) c.requires.there in
    place_within ss c.args.at there

pub invariant_of-self-in-Some : goal.invariant_of-self-in-Some
invariant_of-self-in-Some c =
    let ss = c.self.inside.slots.items in
    let cs = c.self.inside.changes.items in
    let next = c.self.inside.next in
    let at = c.args.at in
    let old = c.in-Some.old in
    let has : row_of ss at ≡ Some old = sym c.swap_row.ensures.row ∙ c.in-Some.is in
    let is : c.push_reserved.new.self.items ≡ cs ++ (Changed at old) ∷ [] = c.push_reserved.ensures.items ∙ ap (λ (ds : List Change). ds ++ (Changed at old) ∷ []) c.reserve.ensures.items in
    let undone : undo_one (Changed at old) (kept c.swap_row.new.slots.items next) ≡ kept ss next = ap (λ (xs : List Slot). undo_one (Changed at old) (kept xs next)) c.swap_row.ensures.slots ∙ back_changed ss at c.in_ok-row.row old next has in
    let n : length (live c.swap_row.new.slots.items) ≡ length (live (with_row ss at c.in_ok-row.row)) = ap (λ (xs : List Slot). length (live xs)) c.swap_row.ensures.slots in
    let m = count_put ss at old c.in_ok-row.row has in
    let p : 1 ≤ length (live ss) = some_live ss at (subst (λ (h : History Kept). IsSome (row_of h.current.slots at)) (sym c.self.view_is) c.requires.there) in (
      subst (λ (xs : List Slot). Rising 0 xs next) (sym c.swap_row.ensures.slots) (rising_with 0 ss next at c.in_ok-row.row c.self.invariant.0),
      ordered_on cs c.push_reserved.new.self.items (Changed at old) (kept ss next) (kept c.swap_row.new.slots.items next) is undone c.self.invariant.1 c.self.invariant.0,
      omega (arith, n, m, p, c.self.invariant.2, c.rows_after-count.ensures),
    )

pub invariant_of-self-in_default : goal.invariant_of-self-in_default
invariant_of-self-in_default c =
    let ss = c.self.inside.slots.items in
    let there : IsSome (row_of ss c.args.at) = subst (λ (h : History Kept). IsSome (row_of h.current.slots c.args.at)) (sym c.self.view_is) c.requires.there in
    absurd (not_some (row_of ss c.args.at) there (sym c.swap_row.ensures.row ∙ c.in_default.is))

pub returns-in-Some-clause-ok : goal.returns-in-Some-clause-ok
returns-in-Some-clause-ok c =
    let ss = c.self.inside.slots.items in
    let cs = c.self.inside.changes.items in
    let next = c.self.inside.next in
    let at = c.args.at in
    let old = c.in-Some.old in
    let has : row_of ss at ≡ Some old = sym c.swap_row.ensures.row ∙ c.in-Some.is in
    let is : c.push_reserved.new.self.items ≡ cs ++ (Changed at old) ∷ [] = c.push_reserved.ensures.items ∙ ap (λ (ds : List Change). ds ++ (Changed at old) ∷ []) c.reserve.ensures.items in
    let undone : undo_one (Changed at old) (kept c.swap_row.new.slots.items next) ≡ kept ss next = ap (λ (xs : List Slot). undo_one (Changed at old) (kept xs next)) c.swap_row.ensures.slots ∙ back_changed ss at c.in_ok-row.row old next has in
    gone_on cs c.push_reserved.new.self.items (Changed at old) (kept ss next) (kept c.swap_row.new.slots.items next) is undone
    ∙ (ap (λ (xs : List Slot). changed (kept xs next) (history undo_one cs (kept ss next))) c.swap_row.ensures.slots
    ∙ (ap (λ (h : History Kept). changed (with_row_at at c.in_ok-row.row h.current) h) c.self.view_is
    ∙ ap (λ (row : Option (List Value)). changed (with_row_at at row c.args.self.now.current) c.args.self.now) c.in_ok-row.ensures))

pub returns-in_default-clause-ok : goal.returns-in_default-clause-ok
returns-in_default-clause-ok c =
    let ss = c.self.inside.slots.items in
    let there : IsSome (row_of ss c.args.at) = subst (λ (h : History Kept). IsSome (row_of h.current.slots c.args.at)) (sym c.self.view_is) c.requires.there in
    absurd (not_some (row_of ss c.args.at) there (sym c.swap_row.ensures.row ∙ c.in_default.is))
