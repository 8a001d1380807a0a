-- Slots one after another.
use Rattle.std.proofs.Common.{◌≡◌, ◌<◌, ◌+◌, ℕ, zero, suc, List, [], ◌∷◌, ◌++◌, map, take, get_or, length, Option, Some, None, refl, sym, ap, ◌∙◌, add-one, arith}
use Rattle.pl_tables.specs.Slots.{before, live}
use Rattle.pl_tables.specs.declared.slots.Slot.{Slot}
use Rattle.pl_value.specs.Frames.{Row}

module _ {A : Type 0} (f : ℕ × Row → A) where
  mapped_before : (id : ℕ) (row : Option Row) (rows : List (ℕ × Row)) → map f (before id row rows) ≡ map f (before id row []) ++ map f rows
  mapped_before id None rows = refl
  mapped_before id (Some row) rows = refl

  append_assoc' : (xs ys zs : List A) → (xs ++ ys) ++ zs ≡ xs ++ (ys ++ zs)
  append_assoc' [] ys zs = refl
  append_assoc' (x ∷ xs) ys zs = ap (λ (l : List A). x ∷ l) (append_assoc' xs ys zs)

  -- one slot more
  live_next : (slots : List Slot) (i : ℕ) (s : Slot) → i < length slots → s ≡ get_or slots i s
      → map f (live (take (suc i) slots)) ≡ map f (live (take i slots)) ++ map f (before s.id s.row [])
  live_next [] i s lt is = absurd (omega (arith, lt))
  live_next (x ∷ slots) zero s lt is = ap (λ (y : Slot). map f (before y.id y.row [])) (sym is)
  live_next (x ∷ slots) (suc i) s lt is =
      mapped_before x.id x.row (live (take (suc i) slots))
      ∙ (ap (λ (l : List A). map f (before x.id x.row []) ++ l) (live_next slots i s (omega (arith, lt)) is)
      ∙ (sym (append_assoc' (map f (before x.id x.row [])) (map f (live (take i slots))) (map f (before s.id s.row [])))
      ∙ ap (λ (l : List A). l ++ map f (before s.id s.row [])) (sym (mapped_before x.id x.row (live (take i slots))))))

  pub live_more : (slots : List Slot) (i : ℕ) (s : Slot) → i < length slots → s ≡ get_or slots i s
      → map f (live (take (i + 1) slots)) ≡ map f (live (take i slots)) ++ map f (before s.id s.row [])
  live_more slots i s lt is = rw add-one (live_next slots i s lt is)
