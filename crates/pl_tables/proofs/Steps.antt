-- Keys in step with the slots.
use Rattle.std.proofs.Common.{◌≡◌, ◌≢◌, ◌<◌, ◌+◌, ◌↔◌, ℕ, zero, suc, List, [], ◌∷◌, Bool, true, false, cond, Option, Some, None, Result, Err, length, map, nat_eq, refl, sym, ap, subst, ◌∙◌, arith}
use Rattle.std.specs.Prelude.{IsSome, option_and_then, option_map, slice_get, slice_set}
use Rattle.std.specs.List.{AllByRecursion}
use Rattle.std.proofs.lemmas.List.{map-append}
use Rattle.std.proofs.lemmas.Option.{slice_get_within}
use Rattle.std.proofs.lemmas.Bool.Decides.{nat_tests}
use Rattle.pl_base.specs.declared.value.Value.{Value}
use Rattle.pl_history.specs.History.{History, back, changed, seen_as, settled}
use Rattle.pl_history.specs.HistoryLaws.{length_map, seen_back, seen_changed}
use Rattle.pl_unique.specs.declared.key.Part.{Part}
use Rattle.pl_unique.specs.declared.row_keys.Key.{Key}
use Rattle.pl_unique.specs.Key.{key_of}
use Rattle.pl_unique.specs.RowKeyLaws.{all_undone, columns_changed}
use Rattle.pl_unique.specs.RowKeys.{changed_key, columns_of, key_given, placed, settled_key, undone_key, HasPlace, IsNew, IsTaken, KeyIsFree}
use Rattle.pl_unique.specs.declared.row_keys.KeyFail.{KeyFail}
use Rattle.pl_unique.specs.declared.row_keys.KeyFail.TheVariants as keys
use Rattle.pl_tables.specs.declared.slots.Slot.{Slot}
use Rattle.pl_tables.specs.declared.table.TableFail.{TableFail}
use Rattle.pl_tables.specs.declared.table.TableFail.TheVariants as tables
use Rattle.pl_tables.specs.Rows.{inserted, key_at, removed, replaced, row_at, Content, Holds}
use Rattle.pl_tables.specs.Slots.{before, live, id_at, row_of, with_row, Rising}
use Rattle.pl_tables.specs.Undo.{content, slot_keys, with_row_at, with_slot, InStep, IsInOrder, Kept}
use Rattle.pl_tables.proofs.Living.{id_read, live_append, live_removed, live_replaced, not_some, rising_at, row_at_slot, row_read}

module _ (columns : List ℕ) where
  abbrev key_in : Slot → Option (List Part)
  key_in s = key_given columns s.row

  pub keys_pushed : (row : List Value) (k : Kept) → slot_keys columns (with_slot row k) ≡ placed None (key_given columns (Some row)) (slot_keys columns k)
  keys_pushed row k = map-append key_in k.slots ((record { id = k.next; row = Some row }) ∷ [])

  keys_set_in : (ss : List Slot) (at : ℕ) (row : Option (List Value)) → map key_in (with_row ss at row) ≡ slice_set (map key_in ss) at (key_given columns row)
  keys_set_in [] at row = refl
  keys_set_in (s ∷ ss) zero row = refl
  keys_set_in (s ∷ ss) (suc at) row = ap (λ (l : List (Option (List Part))). key_in s ∷ l) (keys_set_in ss at row)

  pub keys_set : (at : ℕ) (row : Option (List Value)) (k : Kept) → slot_keys columns (with_row_at at row k) ≡ placed (Some at) (key_given columns row) (slot_keys columns k)
  keys_set at row k = keys_set_in k.slots at row

  key_read : (ss : List Slot) (at : ℕ) (row : List Value) → row_of ss at ≡ Some row → slice_get (map key_in ss) at ≡ Some (key_of columns row)
  key_read [] at row is = absurd cc
  key_read (s ∷ ss) zero row is = ap (λ (o : Option (List Value)). let r : Option (Option (List Part)) = Some (key_given columns o) in r) is
  key_read (s ∷ ss) (suc at) row is = key_read ss at row is

  slot_read : (ss : List Slot) (at : ℕ) (o : Option (List Part)) → slice_get (map key_in ss) at ≡ Some o → (s : Slot) × (slice_get ss at ≡ Some s) × (key_in s ≡ o)
  slot_read [] at o is = absurd cc
  slot_read (s ∷ ss) zero o is = (s, refl, let e : Some (key_in s) ≡ Some o = is in cc)
  slot_read (s ∷ ss) (suc at) o is = slot_read ss at o is

abbrev IsAt : List Slot → ℕ → List Value → Type 0
IsAt ss id row = (at : ℕ) × (id_at ss at ≡ Some id) × (row_of ss at ≡ Some row)

same_number : (n m : ℕ) → nat_eq n m ≡ true → m ≡ n
same_number n m is = grind (arith, nat_tests, is)

-- a row that is there stands in a slot
slot_of_row : (ss : List Slot) (id : ℕ) (row : List Value) → row_at id (live ss) ≡ Some row → IsAt ss id row
slot_of_row [] id row is = absurd cc
slot_of_row (s ∷ ss) id row is =
    (elim s.row as (λ (o : Option (List Value)). s.row ≡ o → row_at id (before s.id o (live ss)) ≡ Some row → IsAt (s ∷ ss) id row) [
      | None ↦ λ e h. (let d = slot_of_row ss id row h in (suc d.0, d.1, d.2))
      | Some r ↦ λ e h. (elim (nat_eq id s.id) as (λ (b : Bool). nat_eq id s.id ≡ b → cond b (Some r) (row_at id (live ss)) ≡ Some row → IsAt (s ∷ ss) id row) [
        | true ↦ λ t g. (0, ap (λ (n : ℕ). let o : Option ℕ = Some n in o) (same_number id s.id t), e ∙ g)
        | false ↦ λ t g. (let d = slot_of_row ss id row g in (suc d.0, d.1, d.2))
      ]) refl h
    ]) refl is

given_by : {A B : Type 0} (f : A → Option B) (o : Option A) (b : B) → option_and_then f o ≡ Some b → (a : A) × (o ≡ Some a) × (f a ≡ Some b)
given_by f None b is = absurd cc
given_by f (Some a) b is = (a, refl, is)

-- what columns hold in a row, and in its slot
module _ (columns : List ℕ) (k : Kept) (parts : List Part) where
  pub holds_at : (id : ℕ) → key_at columns id (live k.slots) ≡ Some parts → (at : ℕ) × (id_at k.slots at ≡ Some id) × (slice_get (slot_keys columns k) at ≡ Some (Some parts))
  holds_at id is =
      let r = given_by (key_of columns) (row_at id (live k.slots)) parts is in
      let d = slot_of_row k.slots id r.0 r.1 in
      (d.0, d.1, key_read columns k.slots d.0 r.0 d.2 ∙ ap (λ (o : Option (List Part)). let p : Option (Option (List Part)) = Some o in p) r.2)

  pub at_holds : (at : ℕ) → IsInOrder k → slice_get (slot_keys columns k) at ≡ Some (Some parts) → (id : ℕ) × (id_at k.slots at ≡ Some id) × (key_at columns id (live k.slots) ≡ Some parts)
  at_holds at order is =
      let s = slot_read columns k.slots at (Some parts) is in
      let id : id_at k.slots at ≡ Some s.0.id = id_read k.slots at s.0 s.1 in
      (s.0.id, id, ap (option_and_then (key_of columns)) (row_at_slot 0 k.slots k.next at s.0.id order id ∙ row_read k.slots at s.0 s.1) ∙ s.2)

-- one key
module _ (h : History Kept) (k : Key) (step : InStep h k) where
  abbrev keys_now : List (Option (List Part))
  keys_now = slot_keys k.columns.items h.current

  now_is : k.at.current ≡ keys_now
  now_is = ap (λ (g : History (List (Option (List Part)))). g.current) step

  step_on : (place : Option ℕ) (row : Option (List Value)) (new : Kept) → slot_keys k.columns.items new ≡ placed place (key_given k.columns.items row) keys_now → InStep (changed new h) (changed_key place row k)
  step_on place row new is =
      ap (λ (g : History (List (Option (List Part)))). changed (placed place (key_given k.columns.items row) g.current) g) step
      ∙ (ap (λ (l : List (Option (List Part))). changed l (seen_as (slot_keys k.columns.items) h)) (sym is) ∙ sym (seen_changed (slot_keys k.columns.items) new h))

  step_back : InStep (back h) (undone_key k)
  step_back = ap (λ (g : History (List (Option (List Part)))). back g) step ∙ sym (seen_back (slot_keys k.columns.items) h)

  step_settled : InStep (settled h) (settled_key k)
  step_settled = ap (λ (g : History (List (Option (List Part)))). settled g) step

  step_place : (at : ℕ) → at < length h.current.slots → HasPlace (Some at) k
  step_place at lt p is =
      let e : at ≡ p = (let o : Some at ≡ Some p = is in cc) in
      let n : length k.at.current ≡ length keys_now = ap (λ (l : List (Option (List Part))). length l) now_is in
      let m : length keys_now ≡ length h.current.slots = length_map (key_in k.columns.items) h.current.slots in
      omega (arith, e, n, m, lt)

  step_within : (at : ℕ) (o : Option (List Part)) → slice_get k.at.current at ≡ Some o → at < length h.current.slots
  step_within at o is =
      let lt : at < length k.at.current = slice_get_within k.at.current at o is in
      let n : length k.at.current ≡ length keys_now = ap (λ (l : List (Option (List Part))). length l) now_is in
      let m : length keys_now ≡ length h.current.slots = length_map (key_in k.columns.items) h.current.slots in
      omega (arith, n, m, lt)

-- all keys
module _ (h : History Kept) where
  pub all_on : (place : Option ℕ) (row : Option (List Value)) (new : Kept) → ((columns : List ℕ) → slot_keys columns new ≡ placed place (key_given columns row) (slot_keys columns h.current))
      → (ks : List Key) → AllByRecursion (InStep h) ks → AllByRecursion (InStep (changed new h)) (map (changed_key place row) ks)
  all_on place row new is [] all = tt
  all_on place row new is (k ∷ ks) all = (step_on h k all.0 place row new (is k.columns.items), all_on place row new is ks all.1)

  pub all_back : (ks : List Key) → AllByRecursion (InStep h) ks → AllByRecursion (InStep (back h)) (map undone_key ks)
  all_back [] all = tt
  all_back (k ∷ ks) all = (step_back h k all.0, all_back ks all.1)

  pub all_settled : (ks : List Key) → AllByRecursion (InStep h) ks → AllByRecursion (InStep (settled h)) (map settled_key ks)
  all_settled [] all = tt
  all_settled (k ∷ ks) all = (step_settled h k all.0, all_settled ks all.1)

  pub all_placed : (at : ℕ) → at < length h.current.slots → (ks : List Key) → AllByRecursion (InStep h) ks → AllByRecursion (HasPlace (Some at)) ks
  all_placed at lt [] all = tt
  all_placed at lt (k ∷ ks) all = (step_place h k all.0 at lt, all_placed at lt ks all.1)

  step_of : (ks : List Key) (n : ℕ) (k : Key) → AllByRecursion (InStep h) ks → slice_get ks n ≡ Some k → InStep h k
  step_of [] n k all is = absurd cc
  step_of (x ∷ ks) zero k all is = let e : x ≡ k = (let o : Some x ≡ Some k = is in cc) in subst (λ (y : Key). InStep h y) e all.0
  step_of (x ∷ ks) (suc n) k all is = step_of ks n k all.1 is

pub none_placed : (ks : List Key) → AllByRecursion (HasPlace None) ks
none_placed [] = tt
none_placed (k ∷ ks) = (λ at is. absurd (let o : (let n : Option ℕ = None in n ≡ Some at) = is in cc), none_placed ks)

pub all_new : (h : History Kept) → h.current.slots ≡ [] → h.past ≡ [] → (ks : List Key) → AllByRecursion IsNew ks → AllByRecursion (InStep h) ks
all_new h none past [] all = tt
all_new h none past (k ∷ ks) all = (
  ap (λ (l : List (Option (List Part))). record { current = l; past = k.at.past }) (all.0.0 ∙ ap (map (key_in k.columns.items)) (sym none))
      ∙ ap (λ (l : List (List (Option (List Part)))). record { current = slot_keys k.columns.items h.current; past = l }) (all.0.1 ∙ ap (map (slot_keys k.columns.items)) (sym past)),
  all_new h none past ks all.1,
)

columns_get : (ks : List Key) (n : ℕ) (k : Key) → slice_get ks n ≡ Some k → slice_get (columns_of ks) n ≡ Some k.columns.items
columns_get [] n k is = absurd cc
columns_get (x ∷ ks) zero k is =
    let e : x ≡ k = (let o : Some x ≡ Some k = is in cc) in
    ap (λ (y : Key). let o : Option (List ℕ) = Some y.columns.items in o) e
columns_get (x ∷ ks) (suc n) k is = columns_get ks n k is

key_get : (ks : List Key) (n : ℕ) (columns : List ℕ) → slice_get (columns_of ks) n ≡ Some columns → (k : Key) × (slice_get ks n ≡ Some k) × (k.columns.items ≡ columns)
key_get [] n columns is = absurd cc
key_get (x ∷ ks) zero columns is = (x, refl, let e : Some x.columns.items ≡ Some columns = is in cc)
key_get (x ∷ ks) (suc n) columns is = key_get ks n columns is

free_of : (P : Key → Type 0) (ks : List Key) (n : ℕ) (k : Key) → AllByRecursion P ks → slice_get ks n ≡ Some k → P k
free_of P [] n k all is = absurd cc
free_of P (x ∷ ks) zero k all is = let e : x ≡ k = (let o : Some x ≡ Some k = is in cc) in subst P e all.0
free_of P (x ∷ ks) (suc n) k all is = free_of P ks n k all.1 is

same_id_at : (ss : List Slot) (at a b : ℕ) → id_at ss at ≡ Some a → id_at ss at ≡ Some b → a ≡ b
same_id_at ss at a b is js = let o : Some a ≡ Some b = sym is ∙ js in cc

-- who holds a key of a row
module _ (h : History Kept) (ks : List Key) (all : AllByRecursion (InStep h) ks) (row : List Value) where
  pub taken_within : (place : Option ℕ) (at : ℕ) → IsTaken place (Some row) ks at → at < length h.current.slots
  taken_within place at t = step_within h t.key (step_of h ks t.number t.key all t.is) at (Some t.taken.parts) t.taken.stands

  pub taken_holds : (place : Option ℕ) (at id : ℕ) → IsInOrder h.current → IsTaken place (Some row) ks at → id_at h.current.slots at ≡ Some id → Holds row (content (columns_of ks) h.current) id
  taken_holds place at id order t is =
      let step = step_of h ks t.number t.key all t.is in
      let stands : slice_get (slot_keys t.key.columns.items h.current) at ≡ Some (Some t.taken.parts) = ap (λ (l : List (Option (List Part))). slice_get l at) (sym (now_is h t.key step)) ∙ t.taken.stands in
      let d = at_holds t.key.columns.items h.current t.taken.parts at order stands in
      let e : d.0 ≡ id = same_id_at h.current.slots at d.0 id d.1 is in
      record {
        number = t.number;
        columns = t.key.columns.items;
        parts = t.taken.parts;
        is = columns_get ks t.number t.key t.is;
        asked = t.taken.has;
        held = subst (λ (n : ℕ). key_at t.key.columns.items n (live h.current.slots) ≡ Some t.taken.parts) e d.2;
      }

  holder_place : (place : Option ℕ) (id : ℕ) → AllByRecursion (KeyIsFree place (Some row)) ks → Holds row (content (columns_of ks) h.current) id → (at : ℕ) × (id_at h.current.slots at ≡ Some id) × (place ≡ Some at)
  holder_place place id free holds =
      let k = key_get ks holds.number holds.columns holds.is in
      let step = step_of h ks holds.number k.0 all k.1 in
      let d = holds_at holds.columns h.current holds.parts id holds.held in
      let asked : key_of k.0.columns.items row ≡ Some holds.parts = ap (λ (c : List ℕ). key_of c row) k.2 ∙ holds.asked in
      let stands : slice_get k.0.at.current d.0 ≡ Some (Some holds.parts) =
      ap (λ (l : List (Option (List Part))). slice_get l d.0) (now_is h k.0 step) ∙ (ap (λ (c : List ℕ). slice_get (slot_keys c h.current) d.0) k.2 ∙ d.2) in
      (d.0, d.1, free_of (KeyIsFree place (Some row)) ks holds.number k.0 free k.1 holds.parts asked d.0 stands)

  pub no_holder : AllByRecursion (KeyIsFree None (Some row)) ks → (id : ℕ) → Holds row (content (columns_of ks) h.current) id → ⊥
  no_holder free id holds = let d = holder_place None id free holds in let o : (let n : Option ℕ = None in n ≡ Some d.0) = d.2 in cc

  pub one_holder : (at own : ℕ) → id_at h.current.slots at ≡ Some own → AllByRecursion (KeyIsFree (Some at) (Some row)) ks → (id : ℕ) → Holds row (content (columns_of ks) h.current) id → id ≡ own
  one_holder at own is free id holds =
      let d = holder_place (Some at) id free holds in
      let e : at ≡ d.0 = (let o : Some at ≡ Some d.0 = d.2 in cc) in
      same_id_at h.current.slots at id own (ap (id_at h.current.slots) e ∙ d.1) is

  pub other_holder : (at own other id : ℕ) → IsInOrder h.current → id_at h.current.slots at ≡ Some own → IsTaken (Some at) (Some row) ks other → id_at h.current.slots other ≡ Some id → id ≢ own
  other_holder at own other id order is t holds e =
      t.taken.other (ap (λ (n : ℕ). let o : Option ℕ = Some n in o) (same_place 0 h.current.slots h.current.next at other own order is (holds ∙ ap (λ (n : ℕ). let o : Option ℕ = Some n in o) e)))
    where
      same_place : (least : ℕ) (ss : List Slot) (top i j id : ℕ) → Rising least ss top → id_at ss i ≡ Some id → id_at ss j ≡ Some id → i ≡ j
      same_place least [] top i j id r is js = absurd cc
      same_place least (s ∷ ss) top zero zero id r is js = refl
      same_place least (s ∷ ss) top zero (suc j) id r is js =
          let e : s.id ≡ id = (let o : Some s.id ≡ Some id = is in cc) in
          let b = (rising_at (s.id + 1) ss top j id r.1 js).0 in absurd (omega (arith, e, b))
      same_place least (s ∷ ss) top (suc i) zero id r is js =
          let e : s.id ≡ id = (let o : Some s.id ≡ Some id = js in cc) in
          let b = (rising_at (s.id + 1) ss top i id r.1 is).0 in absurd (omega (arith, e, b))
      same_place least (s ∷ ss) top (suc i) (suc j) id r is js = ap suc (same_place (s.id + 1) ss top i j id r.1 is js)

-- a table after a change of its rows and keys, or without one
module _ (h new : History Kept) (ks after : List Key) where
  pub view_on : (place : Option ℕ) (row : Option (List Value)) (k : Kept) → after ≡ map (changed_key place row) ks → new ≡ changed k h
      → seen_as (content (columns_of after)) new ≡ changed (content (columns_of ks) k) (seen_as (content (columns_of ks)) h)
  view_on place row k keys rows =
      ap (λ (cs : List (List ℕ)). seen_as (content cs) new) (ap columns_of keys ∙ columns_changed place row ks)
      ∙ (ap (seen_as (content (columns_of ks))) rows ∙ seen_changed (content (columns_of ks)) k h)

  pub steps_on : (place : Option ℕ) (row : Option (List Value)) (k : Kept) → after ≡ map (changed_key place row) ks → new ≡ changed k h
      → ((columns : List ℕ) → slot_keys columns k ≡ placed place (key_given columns row) (slot_keys columns h.current)) → AllByRecursion (InStep h) ks → AllByRecursion (InStep new) after
  steps_on place row k keys rows is all =
      subst (λ (l : List Key). AllByRecursion (InStep new) l) (sym keys) (subst (λ (g : History Kept). AllByRecursion (InStep g) (map (changed_key place row) ks)) (sym rows) (all_on h place row k is ks all))

  pub view_stays : after ≡ ks → new ≡ h → seen_as (content (columns_of after)) new ≡ seen_as (content (columns_of ks)) h
  view_stays keys rows = ap (λ (l : List Key). seen_as (content (columns_of l)) new) keys ∙ ap (seen_as (content (columns_of ks))) rows

  pub steps_stay : after ≡ ks → new ≡ h → AllByRecursion (InStep h) ks → AllByRecursion (InStep new) after
  steps_stay keys rows all = subst (λ (l : List Key). AllByRecursion (InStep new) l) (sym keys) (subst (λ (g : History Kept). AllByRecursion (InStep g) ks) (sym rows) all)

pub keys_return : (ks mid after : List Key) (place : Option ℕ) (row : Option (List Value)) → mid ≡ map (changed_key place row) ks → after ≡ map undone_key mid → after ≡ ks
keys_return ks mid after place row on back = back ∙ (ap (map undone_key) on ∙ all_undone place row ks)

-- what is seen of a change
module _ (keys : List (List ℕ)) (k : Kept) where
  abbrev with_rows : ℕ → List (ℕ × List Value) → Content
  with_rows next rows = record { next = next; rows = rows; keys = keys }

  pub seen_inserted : (row : List Value) → content keys (with_slot row k) ≡ inserted row (content keys k)
  seen_inserted row = ap (with_rows (k.next + 1)) (live_append k.slots (record { id = k.next; row = Some row }))

  pub seen_replaced : (at id : ℕ) (old row : List Value) → IsInOrder k → id_at k.slots at ≡ Some id → row_of k.slots at ≡ Some old → content keys (with_row_at at (Some row) k) ≡ replaced id row (content keys k)
  seen_replaced at id old row order is has = ap (with_rows k.next) (live_replaced 0 k.slots k.next at id old row order is has)

  pub seen_removed : (at id : ℕ) (old : List Value) → IsInOrder k → id_at k.slots at ≡ Some id → row_of k.slots at ≡ Some old → content keys (with_row_at at None k) ≡ removed id (content keys k)
  seen_removed at id old order is has = ap (with_rows k.next) (live_removed 0 k.slots k.next at id old order is has)

pub some_row : (o : Option (List Value)) → IsSome o → (row : List Value) × (o ≡ Some row)
some_row None some = absurd (not_some None some refl)
some_row (Some row) some = (row, refl)

module _ {A E : Type 0} where
  pub same_err : (e f : E) → e ≡ f → (let r : Result A E = Err e in r ≡ Err f)
  same_err e f is = ap (λ (g : E). let r : Result A E = Err g in r) is

refused_by : (o : Option ℕ) (fail : TableFail) → option_map tables.Taken o ≡ Some fail → (id : ℕ) × (o ≡ Some id) × (tables.Taken id ≡ fail)
refused_by None fail is = absurd cc
refused_by (Some n) fail is = (n, refl, let e : (let o : Option TableFail = Some (tables.Taken n) in o ≡ Some fail) = is in cc)

-- which place a refusal names
module _ {A : Type 0} (k : Kept) (result : TableFail) where
  pub taken_fail : (fail : KeyFail) (id : ℕ) → ((at : ℕ) → fail ≡ keys.Taken at → option_map tables.Taken (id_at k.slots at) ≡ Some result) → (fail ≡ keys.Memory → result ≡ tables.Memory)
      → (let r : Result A TableFail = Err result in r ≡ Err (tables.Taken id)) → (at : ℕ) × (fail ≡ keys.Taken at) × (id_at k.slots at ≡ Some id)
  taken_fail (keys.Taken at) id taken memory is =
      let e : result ≡ tables.Taken id = (let r : (let a : Result A TableFail = Err result in a ≡ Err (tables.Taken id)) = is in cc) in
      let d = refused_by (id_at k.slots at) result (taken at refl) in
      let same : d.0 ≡ id = (let t : tables.Taken d.0 ≡ tables.Taken id = d.2 ∙ e in cc) in
      (at, refl, d.1 ∙ ap (λ (m : ℕ). let o : Option ℕ = Some m in o) same)
  taken_fail keys.Memory id taken memory is =
      let e : result ≡ tables.Taken id = (let r : (let a : Result A TableFail = Err result in a ≡ Err (tables.Taken id)) = is in cc) in
      absurd (let t : tables.Memory ≡ tables.Taken id = sym (memory refl) ∙ e in cc)

  pub not_full_fail : (fail : KeyFail) → ((at : ℕ) → fail ≡ keys.Taken at → option_map tables.Taken (id_at k.slots at) ≡ Some result) → (fail ≡ keys.Memory → result ≡ tables.Memory)
      → (let r : Result A TableFail = Err result in r ≡ Err tables.Full) → ⊥
  not_full_fail (keys.Taken at) taken memory is =
      let e : result ≡ tables.Full = (let r : (let a : Result A TableFail = Err result in a ≡ Err tables.Full) = is in cc) in
      let d = refused_by (id_at k.slots at) result (taken at refl) in
      let t : tables.Taken d.0 ≡ tables.Full = d.2 ∙ e in cc
  not_full_fail keys.Memory taken memory is =
      let e : result ≡ tables.Full = (let r : (let a : Result A TableFail = Err result in a ≡ Err tables.Full) = is in cc) in
      let t : tables.Memory ≡ tables.Full = sym (memory refl) ∙ e in cc

-- the row that is found by a key is the one that has it
module _ (h : History Kept) (ks : List Key) (all : AllByRecursion (InStep h) ks) (number : ℕ) (k : Key) (is : slice_get ks number ≡ Some k) (parts : List Part) where
  abbrev held : ℕ → Option (List Part)
  held id = option_and_then (λ (columns : List ℕ). key_at columns id (live h.current.slots)) (slice_get (columns_of ks) number)

  held_is : (id : ℕ) → held id ≡ key_at k.columns.items id (live h.current.slots)
  held_is id = ap (option_and_then (λ (columns : List ℕ). key_at columns id (live h.current.slots))) (columns_get ks number k is)

  pub found_key : (place answer : Option ℕ) → ((at : ℕ) → (place ≡ Some at) ↔ (slice_get k.at.current at ≡ Some (Some parts))) → answer ≡ option_and_then (id_at h.current.slots) place
      → ((at : ℕ) → place ≡ Some at → IsInOrder h.current) → (id : ℕ) → (answer ≡ Some id) ↔ (held id ≡ Some parts)
  found_key place answer places answers order id = (
    λ e. (let p = given_by (id_at h.current.slots) place id (sym answers ∙ e) in
        let stands : slice_get (slot_keys k.columns.items h.current) p.0 ≡ Some (Some parts) = ap (λ (l : List (Option (List Part))). slice_get l p.0) (sym now) ∙ (places p.0).0 p.1 in
        let d = at_holds k.columns.items h.current parts p.0 (order p.0 p.1) stands in
        held_is id ∙ subst (λ (n : ℕ). key_at k.columns.items n (live h.current.slots) ≡ Some parts) (same_id_at h.current.slots p.0 d.0 id d.1 p.2) d.2),
    λ e. (let d = holds_at k.columns.items h.current parts id (sym (held_is id) ∙ e) in
        let at : place ≡ Some d.0 = (places d.0).1 (ap (λ (l : List (Option (List Part))). slice_get l d.0) now ∙ d.2) in
        answers ∙ (ap (option_and_then (id_at h.current.slots)) at ∙ d.1)),
  )
    where
      now : k.at.current ≡ slot_keys k.columns.items h.current
      now = now_is h k (step_of h ks number k all is)

pub key_within : (ks : List Key) (n : ℕ) → n < length (columns_of ks) → n < length ks
key_within ks n lt = let e : length (columns_of ks) ≡ length ks = length_map (λ (k : Key). k.columns.items) ks in omega (arith, e, lt)

pub found_within : (h : History Kept) (ks : List Key) (number at : ℕ) (k : Key) (o : Option (List Part)) → AllByRecursion (InStep h) ks → slice_get ks number ≡ Some k → slice_get k.at.current at ≡ Some o → at < length h.current.slots
found_within h ks number at k o all is has = step_within h k (step_of h ks number k all is) at o has
