-- Slots, and the rows that live in them.
use Rattle.std.proofs.Common.{◌≡◌, ◌≤◌, ◌<◌, ◌+◌, ℕ, zero, suc, List, [], ◌∷◌, ◌++◌, Bool, true, false, cond, Option, Some, None, length, nat_eq, refl, sym, ap, subst, ◌∙◌, arith, length-append}
use Rattle.std.specs.Prelude.{IsSome, option_map, option_and_then, slice_get, slice_set}
use Rattle.std.specs.Map.{set_value, remove_entry}
use Rattle.std.proofs.lemmas.Bool.Decides.{nat_tests}
use Rattle.pl_base.specs.declared.value.Value.{Value}
use Rattle.pl_tables.specs.declared.slots.Slot.{Slot}
use Rattle.pl_tables.specs.Rows.{row_at}
use Rattle.pl_tables.specs.Slots.{before, live, id_at, row_of, with_row, Rising}

same_id : (n : ℕ) → nat_eq n n ≡ true
same_id n = grind (arith, nat_tests)

other_id : (n m : ℕ) → (n ≡ m → ⊥) → nat_eq n m ≡ false
other_id n m ne = grind (arith, nat_tests, ne)

pub before_append : (id : ℕ) (row : Option (List Value)) (a b : List (ℕ × List Value)) → before id row (a ++ b) ≡ before id row a ++ b
before_append id None a b = refl
before_append id (Some row) a b = refl

-- a slot more
pub live_append : (ss : List Slot) (s : Slot) → live (ss ++ s ∷ []) ≡ live ss ++ before s.id s.row []
live_append [] s = refl
live_append (x ∷ ss) s = ap (before x.id x.row) (live_append ss s) ∙ before_append x.id x.row (live ss) (before s.id s.row [])

pub rising_append : (least : ℕ) (ss : List Slot) (s : Slot) (top : ℕ) → Rising least ss top → s.id ≡ top → Rising least (ss ++ s ∷ []) (top + 1)
rising_append least [] s top r is = (omega (arith, r, is), omega (arith, is))
rising_append least (x ∷ ss) s top r is = (r.0, rising_append (x.id + 1) ss s top r.1 is)

length_before : (id : ℕ) (row : Option (List Value)) (rows : List (ℕ × List Value)) (n : ℕ) → length rows ≤ n → length (before id row rows) ≤ suc n
length_before id None rows n le = omega (arith, le)
length_before id (Some row) rows n le = omega (arith, le)

pub length_live : (ss : List Slot) → length (live ss) ≤ length ss
length_live [] = omega arith
length_live (s ∷ ss) = length_before s.id s.row (live ss) (length ss) (length_live ss)

same_before : (id own : ℕ) (row o : Option (List Value)) (rows : List (ℕ × List Value)) → (id ≡ own → ⊥) → row_at id rows ≡ o → row_at id (before own row rows) ≡ o
same_before id own None o rows ne h = h
same_before id own (Some row) o rows ne h = rw (other_id id own ne) h

found_before : (id : ℕ) (row : Option (List Value)) (rows : List (ℕ × List Value)) → row_at id rows ≡ None → row_at id (before id row rows) ≡ row
found_before id None rows h = h
found_before id (Some row) rows h = rw (same_id id) refl

-- an id that stands at a place is in order
pub rising_at : (least : ℕ) (ss : List Slot) (top at id : ℕ) → Rising least ss top → id_at ss at ≡ Some id → (least ≤ id) × (id < top)
rising_at least [] top at id r is = absurd cc
rising_at least (s ∷ ss) top zero id r is =
    let e : s.id ≡ id = (let o : Some s.id ≡ Some id = is in cc) in
    let t = rising_top (s.id + 1) ss top r.1 in
    (omega (arith, r.0, e), omega (arith, t, e))
  where
    rising_top : (least : ℕ) (ss : List Slot) (top : ℕ) → Rising least ss top → least ≤ top
    rising_top least [] top r = r
    rising_top least (s ∷ ss) top r = let h = rising_top (s.id + 1) ss top r.1 in omega (arith, h, r.0)
rising_at least (s ∷ ss) top (suc at) id r is =
    let h = rising_at (s.id + 1) ss top at id r.1 is in
    (omega (arith, h.0, r.0), h.1)

pub rising_with : (least : ℕ) (ss : List Slot) (top at : ℕ) (row : Option (List Value)) → Rising least ss top → Rising least (with_row ss at row) top
rising_with least [] top at row r = r
rising_with least (s ∷ ss) top zero row r = r
rising_with least (s ∷ ss) top (suc at) row r = (r.0, rising_with (s.id + 1) ss top at row r.1)

-- no row has an id below the first one
pub none_below : (least : ℕ) (ss : List Slot) (top id : ℕ) → Rising least ss top → id < least → row_at id (live ss) ≡ None
none_below least [] top id r lt = refl
none_below least (s ∷ ss) top id r lt =
    same_before id s.id s.row None (live ss) (λ e. omega (arith, e, lt, r.0)) (none_below (s.id + 1) ss top id r.1 (omega (arith, lt, r.0)))

-- the row of an id is that of its slot
pub row_at_slot : (least : ℕ) (ss : List Slot) (top at id : ℕ) → Rising least ss top → id_at ss at ≡ Some id → row_at id (live ss) ≡ row_of ss at
row_at_slot least [] top at id r is = absurd cc
row_at_slot least (s ∷ ss) top zero id r is =
    let e : s.id ≡ id = (let o : Some s.id ≡ Some id = is in cc) in
    subst (λ (n : ℕ). row_at n (live (s ∷ ss)) ≡ s.row) e (found_before s.id s.row (live ss) (none_below (s.id + 1) ss top s.id r.1 (omega arith)))
row_at_slot least (s ∷ ss) top (suc at) id r is =
    let lt = (rising_at (s.id + 1) ss top at id r.1 is).0 in
    same_before id s.id s.row (row_of ss at) (live ss) (λ e. omega (arith, e, lt)) (row_at_slot (s.id + 1) ss top at id r.1 is)

-- no slot has the id
pub none_at : (ss : List Slot) (id : ℕ) → ((at : ℕ) → id_at ss at ≡ Some id → ⊥) → row_at id (live ss) ≡ None
none_at [] id none = refl
none_at (s ∷ ss) id none =
    same_before id s.id s.row None (live ss) (λ e. none 0 (ap (λ (n : ℕ). let o : Option ℕ = Some n in o) (sym e))) (none_at ss id (λ at is. none (suc at) is))

replaced_before : (id own : ℕ) (row : Option (List Value)) (new : List Value) (rows rows' : List (ℕ × List Value)) → (id ≡ own → ⊥) → rows' ≡ set_value (nat_eq id) rows new
    → before own row rows' ≡ set_value (nat_eq id) (before own row rows) new
replaced_before id own None new rows rows' ne h = h
replaced_before id own (Some row) new rows rows' ne h = rw (other_id id own ne) (ap (λ (xs : List (ℕ × List Value)). (own, row) ∷ xs) h)

removed_before : (id own : ℕ) (row : Option (List Value)) (rows rows' : List (ℕ × List Value)) → (id ≡ own → ⊥) → rows' ≡ remove_entry (nat_eq id) rows
    → before own row rows' ≡ remove_entry (nat_eq id) (before own row rows)
removed_before id own None rows rows' ne h = h
removed_before id own (Some row) rows rows' ne h = rw (other_id id own ne) (ap (λ (xs : List (ℕ × List Value)). (own, row) ∷ xs) h)

-- another row in the place of one that is there
pub live_replaced : (least : ℕ) (ss : List Slot) (top at id : ℕ) (old new : List Value) → Rising least ss top → id_at ss at ≡ Some id → row_of ss at ≡ Some old
    → live (with_row ss at (Some new)) ≡ set_value (nat_eq id) (live ss) new
live_replaced least [] top at id old new r is has = absurd cc
live_replaced least (s ∷ ss) top zero id old new r is has =
    let e : s.id ≡ id = (let o : Some s.id ≡ Some id = is in cc) in
    let test : nat_eq id s.id ≡ true = ap (λ (n : ℕ). nat_eq id n) e ∙ same_id id in
    let rows : live (s ∷ ss) ≡ (s.id, old) ∷ live ss = ap (λ (o : Option (List Value)). before s.id o (live ss)) has in
    sym (ap (λ (xs : List (ℕ × List Value)). set_value (nat_eq id) xs new) rows ∙ ap (λ (b : Bool). cond b ((s.id, new) ∷ live ss) ((s.id, old) ∷ set_value (nat_eq id) (live ss) new)) test)
live_replaced least (s ∷ ss) top (suc at) id old new r is has =
    let lt = (rising_at (s.id + 1) ss top at id r.1 is).0 in
    replaced_before id s.id s.row new (live ss) (live (with_row ss at (Some new))) (λ e. omega (arith, e, lt)) (live_replaced (s.id + 1) ss top at id old new r.1 is has)

-- no row in the place of one that is there
pub live_removed : (least : ℕ) (ss : List Slot) (top at id : ℕ) (old : List Value) → Rising least ss top → id_at ss at ≡ Some id → row_of ss at ≡ Some old
    → live (with_row ss at None) ≡ remove_entry (nat_eq id) (live ss)
live_removed least [] top at id old r is has = absurd cc
live_removed least (s ∷ ss) top zero id old r is has =
    let e : s.id ≡ id = (let o : Some s.id ≡ Some id = is in cc) in
    let test : nat_eq id s.id ≡ true = ap (λ (n : ℕ). nat_eq id n) e ∙ same_id id in
    let rows : live (s ∷ ss) ≡ (s.id, old) ∷ live ss = ap (λ (o : Option (List Value)). before s.id o (live ss)) has in
    sym (ap (λ (xs : List (ℕ × List Value)). remove_entry (nat_eq id) xs) rows ∙ ap (λ (b : Bool). cond b (live ss) ((s.id, old) ∷ remove_entry (nat_eq id) (live ss))) test)
live_removed least (s ∷ ss) top (suc at) id old r is has =
    let lt = (rising_at (s.id + 1) ss top at id r.1 is).0 in
    removed_before id s.id s.row (live ss) (live (with_row ss at None)) (λ e. omega (arith, e, lt)) (live_removed (s.id + 1) ss top at id old r.1 is has)

-- how many rows there are
module _ (id : ℕ) where
  pub count_before : (row : Option (List Value)) (rows rows' : List (ℕ × List Value)) (n : ℕ) → length rows' ≡ length rows + n → length (before id row rows') ≡ length (before id row rows) + n
  count_before None rows rows' n h = h
  count_before (Some row) rows rows' n h = omega (arith, h)

pub count_filled : (ss : List Slot) (at id : ℕ) (new : List Value) → id_at ss at ≡ Some id → row_of ss at ≡ None → length (live (with_row ss at (Some new))) ≡ length (live ss) + 1
count_filled [] at id new is none = absurd cc
count_filled (s ∷ ss) zero id new is none =
    let rows : live (s ∷ ss) ≡ live ss = ap (λ (o : Option (List Value)). before s.id o (live ss)) none in
    let n : length (live (s ∷ ss)) ≡ length (live ss) = ap (λ (xs : List (ℕ × List Value)). length xs) rows in
    omega (arith, n)
count_filled (s ∷ ss) (suc at) id new is none = count_before s.id s.row (live ss) (live (with_row ss at (Some new))) 1 (count_filled ss at id new is none)

pub count_swapped : (ss : List Slot) (at : ℕ) (old new : List Value) → row_of ss at ≡ Some old → length (live (with_row ss at (Some new))) ≡ length (live ss) + 0
count_swapped [] at old new has = absurd cc
count_swapped (s ∷ ss) zero old new has =
    let rows : live (s ∷ ss) ≡ (s.id, old) ∷ live ss = ap (λ (o : Option (List Value)). before s.id o (live ss)) has in
    let n : length (live (s ∷ ss)) ≡ length ((s.id, old) ∷ live ss) = ap (λ (xs : List (ℕ × List Value)). length xs) rows in
    omega (arith, n)
count_swapped (s ∷ ss) (suc at) old new has = count_before s.id s.row (live ss) (live (with_row ss at (Some new))) 0 (count_swapped ss at old new has)

pub count_emptied : (ss : List Slot) (at : ℕ) (old : List Value) → row_of ss at ≡ Some old → length (live ss) ≡ length (live (with_row ss at None)) + 1
count_emptied [] at old has = absurd cc
count_emptied (s ∷ ss) zero old has =
    let rows : live (s ∷ ss) ≡ (s.id, old) ∷ live ss = ap (λ (o : Option (List Value)). before s.id o (live ss)) has in
    let n : length (live (s ∷ ss)) ≡ length ((s.id, old) ∷ live ss) = ap (λ (xs : List (ℕ × List Value)). length xs) rows in
    omega (arith, n)
count_emptied (s ∷ ss) (suc at) old has = count_before s.id s.row (live (with_row ss at None)) (live ss) 1 (count_emptied ss at old has)

pub length_with : (ss : List Slot) (at : ℕ) (row : Option (List Value)) → length (with_row ss at row) ≡ length ss
length_with [] at row = refl
length_with (s ∷ ss) zero row = refl
length_with (s ∷ ss) (suc at) row = ap suc (length_with ss at row)

-- a written slot
pub slot_set : (ss : List Slot) (at : ℕ) (s : Slot) (row : Option (List Value)) → slice_get ss at ≡ Some s → slice_set ss at (record { id = s.id; row = row }) ≡ with_row ss at row
slot_set [] at s row is = refl
slot_set (x ∷ ss) zero s row is = let e : x ≡ s = (let o : Some x ≡ Some s = is in cc) in ap (λ (y : Slot). record { id = y.id; row = row } ∷ ss) (sym e)
slot_set (x ∷ ss) (suc at) s row is = ap (λ (ys : List Slot). x ∷ ys) (slot_set ss at s row is)

pub row_read : (ss : List Slot) (at : ℕ) (s : Slot) → slice_get ss at ≡ Some s → row_of ss at ≡ s.row
row_read ss at s is = ap (option_and_then (λ (x : Slot). x.row)) is

-- a place that is there has an id
pub has_id : (ss : List Slot) (at : ℕ) → at < length ss → (id : ℕ) × (id_at ss at ≡ Some id)
has_id [] at lt = absurd (omega (arith, lt))
has_id (s ∷ ss) zero lt = (s.id, refl)
has_id (s ∷ ss) (suc at) lt = has_id ss at (omega (arith, lt))

-- a row that comes back
pub with_old : (ss : List Slot) (at : ℕ) (row : Option (List Value)) (old : List Value) → row_of ss at ≡ Some old → with_row (with_row ss at row) at (Some old) ≡ ss
with_old [] at row old has = refl
with_old (s ∷ ss) zero row old has = ap (λ (o : Option (List Value)). record { id = s.id; row = o } ∷ ss) (sym has)
with_old (s ∷ ss) (suc at) row old has = ap (λ (xs : List Slot). s ∷ xs) (with_old ss at row old has)

pub id_within : (ss : List Slot) (at id : ℕ) → id_at ss at ≡ Some id → at < length ss
id_within [] at id is = absurd cc
id_within (s ∷ ss) zero id is = omega arith
id_within (s ∷ ss) (suc at) id is = let h = id_within ss at id is in omega (arith, h)

pub with_past : (ss : List Slot) (at : ℕ) (row : Option (List Value)) → length ss ≤ at → with_row ss at row ≡ ss
with_past [] at row le = refl
with_past (s ∷ ss) zero row le = absurd (omega (arith, le))
with_past (s ∷ ss) (suc at) row le = ap (λ (xs : List Slot). s ∷ xs) (with_past ss at row (omega (arith, le)))

-- the ids rise with the places
pub rising_mono : (least : ℕ) (ss : List Slot) (top i j a b : ℕ) → Rising least ss top → i ≤ j → id_at ss i ≡ Some a → id_at ss j ≡ Some b → a ≤ b
rising_mono least [] top i j a b r le is js = absurd cc
rising_mono least (s ∷ ss) top zero zero a b r le is js =
    let e : a ≡ b = (let o : Some a ≡ Some b = sym is ∙ js in cc) in omega (arith, e)
rising_mono least (s ∷ ss) top zero (suc j) a b r le is js =
    let e : s.id ≡ a = (let o : Some s.id ≡ Some a = is in cc) in
    let h = (rising_at (s.id + 1) ss top j b r.1 js).0 in omega (arith, e, h)
rising_mono least (s ∷ ss) top (suc i) zero a b r le is js = absurd (omega (arith, le))
rising_mono least (s ∷ ss) top (suc i) (suc j) a b r le is js = rising_mono (s.id + 1) ss top i j a b r.1 (omega (arith, le)) is js

pub id_read : (ss : List Slot) (at : ℕ) (s : Slot) → slice_get ss at ≡ Some s → id_at ss at ≡ Some s.id
id_read ss at s is = ap (option_map (λ (x : Slot). x.id)) is

pub count_popped : (ss : List Slot) (s : Slot) → length (live (ss ++ s ∷ [])) ≡ length (live ss) + length (before s.id s.row [])
count_popped ss s = ap (λ (xs : List (ℕ × List Value)). length xs) (live_append ss s) ∙ length-append (live ss) (before s.id s.row [])

pub not_some : (o : Option (List Value)) → IsSome o → o ≡ None → ⊥
not_some None h e = grind (arith, h)
not_some (Some row) h e = absurd cc

-- a place that has a row
pub place_within : (ss : List Slot) (at : ℕ) → IsSome (row_of ss at) → at < length ss
place_within [] at some = absurd (not_some (row_of [] at) some refl)
place_within (s ∷ ss) zero some = omega arith
place_within (s ∷ ss) (suc at) some = let h = place_within ss at some in omega (arith, h)

some_before : (id : ℕ) (row : Option (List Value)) (rows : List (ℕ × List Value)) → IsSome row → 1 ≤ length (before id row rows)
some_before id None rows some = absurd (not_some None some refl)
some_before id (Some row) rows some = omega arith

more_before : (id : ℕ) (row : Option (List Value)) (rows : List (ℕ × List Value)) → length rows ≤ length (before id row rows)
more_before id None rows = omega arith
more_before id (Some row) rows = omega arith

pub some_live : (ss : List Slot) (at : ℕ) → IsSome (row_of ss at) → 1 ≤ length (live ss)
some_live [] at some = absurd (not_some (row_of [] at) some refl)
some_live (s ∷ ss) zero some = some_before s.id s.row (live ss) some
some_live (s ∷ ss) (suc at) some =
    let h = some_live ss at some in
    let m = more_before s.id s.row (live ss) in
    omega (arith, h, m)

-- how many rows there are when one has come in the place of another
pub count_put : (ss : List Slot) (at : ℕ) (old : List Value) (row : Option (List Value)) → row_of ss at ≡ Some old
    → length (live (with_row ss at row)) + 1 ≡ length (live ss) + length (before 0 row [])
count_put ss at old None has = let n = count_emptied ss at old has in omega (arith, n)
count_put ss at old (Some row) has = let n = count_swapped ss at old row has in omega (arith, n)
