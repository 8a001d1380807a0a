-- Rows that are kept, one slot after another.
use Rattle.std.proofs.Common.{◌≡◌, ◌<◌, ◌+◌, ◌∙◌, ℕ, zero, suc, List, [], ◌∷◌, ◌++◌, Option, Some, None, add-one, append-nil, append_assoc, ap, arith, get_or, length, refl, sym, take}
use Rattle.pl_altering.specs.Entries.{entries, entry_of}
use Rattle.pl_altering.specs.declared.keeping.Entry.{Entry}
use Rattle.pl_tables.specs.Slots.{before, live}
use Rattle.pl_tables.specs.declared.slots.Slot.{Slot}
use Rattle.pl_value.specs.Frames.{Row}
use Rattle.pl_world.specs.Changes as spec

before_more : (id : ℕ) (row : Option Row) (rows : List spec.Entry) → before id row rows ≡ before id row [] ++ rows
before_more id None rows = refl
before_more id (Some row) rows = refl

live_next : (slots : List Slot) (i : ℕ) (s : Slot) → i < length slots → s ≡ get_or slots i s → live (take (suc i) slots) ≡ live (take i slots) ++ before s.id s.row []
live_next [] i s lt is = absurd (omega (arith, lt))
live_next (x ∷ slots) zero s lt is = ap (λ (y : Slot). before y.id y.row []) (sym is)
live_next (x ∷ slots) (suc i) s lt is =
    before_more x.id x.row (live (take (suc i) slots))
    ∙ (ap (λ (l : List spec.Entry). before x.id x.row [] ++ l) (live_next slots i s (omega (arith, lt)) is)
    ∙ (sym (append_assoc (before x.id x.row []) (live (take i slots)) (before s.id s.row []))
    ∙ ap (λ (l : List spec.Entry). l ++ before s.id s.row []) (sym (before_more x.id x.row (live (take i slots))))))

-- one slot more
pub live_more : (slots : List Slot) (i : ℕ) (s : Slot) → i < length slots → s ≡ get_or slots i s → live (take (i + 1) slots) ≡ live (take i slots) ++ before s.id s.row []
live_more slots i s lt is = rw add-one (live_next slots i s lt is)

pub entries_more : (kept : List Entry) (e : Entry) → entries (kept ++ e ∷ []) ≡ entries kept ++ entry_of e ∷ []
entries_more [] e = refl
entries_more (x ∷ kept) e = ap (λ (es : List spec.Entry). entry_of x ∷ es) (entries_more kept e)

pub nothing_more : (old : List spec.Entry) (id : ℕ) (o : Option Row) → o ≡ None → old ≡ old ++ before id o []
nothing_more old id o none = sym (append-nil old) ∙ ap (λ (o : Option Row). old ++ before id o []) (sym none)
