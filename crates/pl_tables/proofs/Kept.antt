-- What a heap keeps, before a change and after it.
use Rattle.std.proofs.Common.{◌≡◌, ◌-◌, ◌+◌, ℕ, List, [], ◌∷◌, ◌++◌, Option, Some, length, take, sym, ap, subst, ◌∙◌, arith}
use Rattle.std.specs.List.{AllByRecursion}
use Rattle.pl_base.specs.declared.value.Value.{Value}
use Rattle.pl_history.specs.History.{back, changed, history, past_of}
use Rattle.pl_history.specs.HistoryLaws.{all_more, all_less, past_more, history_changed, history_back, before_last}
use Rattle.pl_tables.specs.declared.slots.Slot.{Slot}
use Rattle.pl_tables.specs.declared.heap.Change.{Change}
use Rattle.pl_tables.specs.declared.heap.Change.TheVariants.{Added, Changed}
use Rattle.pl_tables.specs.Slots.{row_of, with_row}
use Rattle.pl_tables.specs.Undo.{Kept, kept, undo_one, IsInOrder}
use Rattle.pl_tables.proofs.Living.{with_old}

-- a change was made
module _ (cs all : List Change) (c : Change) (old new : Kept) (is : all ≡ cs ++ c ∷ []) (undone : undo_one c new ≡ old) where
  pub gone_on : history undo_one all new ≡ changed new (history undo_one cs old)
  gone_on = ap (λ (l : List Change). history undo_one l new) is ∙ history_changed undo_one cs c old new undone

  pub ordered_on : AllByRecursion IsInOrder (past_of undo_one cs old) → IsInOrder old → AllByRecursion IsInOrder (past_of undo_one all new)
  ordered_on h o =
      subst (λ (l : List Change). AllByRecursion IsInOrder (past_of undo_one l new)) (sym is)
      (subst (AllByRecursion IsInOrder) (sym (past_more undo_one cs c new ∙ ap (λ (k : Kept). past_of undo_one cs k ++ k ∷ []) undone))
      (all_more IsInOrder (past_of undo_one cs old) old h o))

-- a change is undone
module _ (cs all : List Change) (c : Change) (old : Kept) (is : all ≡ cs ++ c ∷ []) where
  pub gone_back : (new : Kept) → new ≡ undo_one c old → history undo_one cs new ≡ back (history undo_one all old)
  gone_back new e =
      ap (λ (k : Kept). history undo_one cs k) e
      ∙ (history_back undo_one cs c old ∙ ap (λ (l : List Change). back (history undo_one l old)) (sym is))

  pub ordered_back : (new : Kept) → new ≡ undo_one c old → AllByRecursion IsInOrder (past_of undo_one all old)
      → IsInOrder new × AllByRecursion IsInOrder (past_of undo_one cs new)
  ordered_back new e h =
      let both = all_less IsInOrder (past_of undo_one cs (undo_one c old)) (undo_one c old)
      (subst (AllByRecursion IsInOrder) (past_more undo_one cs c old) (subst (λ (l : List Change). AllByRecursion IsInOrder (past_of undo_one l old)) is h)) in
      (subst IsInOrder (sym e) both.1, subst (λ (k : Kept). AllByRecursion IsInOrder (past_of undo_one cs k)) (sym e) both.0)

pub back_added : (ss : List Slot) (s : Slot) (next : ℕ) → undo_one Added (kept (ss ++ s ∷ []) (next + 1)) ≡ kept ss next
back_added ss s next =
    let n : next + 1 - 1 ≡ next = omega arith in
    ap (λ (m : ℕ). kept (take (length (ss ++ s ∷ []) - 1) (ss ++ s ∷ [])) m) n ∙ ap (λ (xs : List Slot). kept xs next) (before_last ss s)

pub back_changed : (ss : List Slot) (at : ℕ) (row : Option (List Value)) (old : List Value) (next : ℕ) → row_of ss at ≡ Some old
    → undo_one (Changed at old) (kept (with_row ss at row) next) ≡ kept ss next
back_changed ss at row old next has = ap (λ (xs : List Slot). kept xs next) (with_old ss at row old has)
