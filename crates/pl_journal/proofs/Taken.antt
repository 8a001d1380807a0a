-- Keys that are taken.
use Rattle.std.proofs.Common.{◌≡◌, ◌≢◌, ◌↔◌, ℕ, suc, List, [], ◌∷◌, Bool, true, false, cond, not, ◌&&◌, ◌||◌, nat_eq, get_or, Option, Some, None, Result, Err, Ok, slice_get, refl, sym, ap, ◌∙◌}
use Rattle.std.specs.Prelude.{option_and_then, option_map}
use Rattle.std.specs.List.{list_any}
use Rattle.std.proofs.lemmas.List.Folds.{list_any_at}
use Rattle.std.proofs.lemmas.Option.{get_or_from_slice_get, slice_get_within}
use Rattle.pl_base.specs.States.{PROGRAM_LIMIT_EXCEEDED, UNIQUE_VIOLATION}
use Rattle.pl_base.specs.declared.state.State.{State}
use Rattle.pl_journal.specs.Writing.{has_key_of, is_same_key, is_taken, new_refused, other_refused, unless, with_row}
use Rattle.pl_journal.specs.Journal.{Leads}
use Rattle.pl_journal.specs.Steps.{refusal_of}
use Rattle.pl_journal.proofs.Truths.{and_true, first_true, or_true, other_number, own_number, same_number, second_true}
use Rattle.pl_tables.specs.declared.table.TableFail.{TableFail}
use Rattle.pl_tables.specs.declared.table.TableFail.TheVariants.{Full, Taken}
use Rattle.pl_tables.specs.declared.table.TableFail.TheVariants as fail
use Rattle.pl_tables.specs.Named.{Named, content_named, is_full_named, on_table, HoldsIn}
use Rattle.pl_tables.specs.Rows.{Content, Holds, inserted, is_full, key_at, replaced, row_at}
use Rattle.pl_unique.specs.Key.{key_of}
use Rattle.pl_unique.specs.declared.key.Part.{Part}
use Rattle.pl_unique.specs.Parts.{told, holds}
use Rattle.pl_value.specs.Frames.{Row}

-- an element that passes, and its place
record Passing {A : Type 0} (p : A → Bool) (xs : List A) : Type 0 where
  at : ℕ
  item : A
  is : slice_get xs at ≡ Some item
  passes : p item ≡ true

passing : {A : Type 0} (p : A → Bool) (xs : List A) → list_any p xs ≡ true → Passing p xs
passing p [] any = absurd cc
passing {A} p (x ∷ xs) any =
    (elim (p x) as (λ (b : Bool). p x ≡ b → (b || list_any p xs) ≡ true → Passing p (x ∷ xs)) [
      | true ↦ λ e h. record { at = 0; item = x; is = refl; passes = e }
      | false ↦ λ e h. let r = passing p xs h in record { at = suc r.at; item = r.item; is = r.is; passes = r.passes }
    ]) refl any

record Both (o o' : Option (List Part)) : Type 0 where
  parts : List Part
  first : o ≡ Some parts
  second : o' ≡ Some parts

both_keys : (o o' : Option (List Part)) → is_same_key o o' ≡ true → Both o o'
both_keys None o' is = absurd cc
both_keys (Some x) None is = absurd cc
both_keys (Some x) (Some y) is = record { parts = x; first = refl; second = ap (λ (ps : List Part). let o : Option (List Part) = Some ps in o) (sym (told x y is)) }

-- the entry of an id that is there
listed : (id : ℕ) (test : ℕ → Bool) → test id ≡ true → (entries : List (ℕ × Row)) (found : Row) → row_at id entries ≡ Some found → list_any (λ (entry : ℕ × Row). test entry.0) entries ≡ true
listed id test so [] found is = absurd cc
listed id test so ((other, row) ∷ entries) found is =
    (elim (nat_eq id other) as (λ (b : Bool). nat_eq id other ≡ b → cond b (Some row) (row_at id entries) ≡ Some found → (test other || list_any (λ (entry : ℕ × Row). test entry.0) entries) ≡ true) [
      | true ↦ λ e h. ap (λ (b : Bool). b || list_any (λ (entry : ℕ × Row). test entry.0) entries) (ap test (sym (same_number id other e)) ∙ so)
      | false ↦ λ e h. or_true (test other) (list_any (λ (entry : ℕ × Row). test entry.0) entries) (listed id test so entries found h)
    ]) refl is

pub there_is : (columns : List ℕ) (o : Option Row) (parts : List Part) → option_and_then (key_of columns) o ≡ Some parts → (found : Row) × (o ≡ Some found)
there_is columns None parts is = absurd cc
there_is columns (Some row) parts is = (row, refl)

module _ (row : Row) (c : Content) where
  has_key : (id : ℕ) → Holds row c id → has_key_of row c id ≡ true
  has_key id h =
      let p = λ (columns : List ℕ). is_same_key (key_of columns row) (key_at columns id c.rows) in
      let e : get_or c.keys h.number h.columns ≡ h.columns = get_or_from_slice_get c.keys h.number h.columns h.columns h.is in
      list_any_at p c.keys h.number h.columns (slice_get_within c.keys h.number h.columns h.is)
      (ap p e ∙ (ap (λ (o : Option (List Part)). is_same_key o (key_at h.columns id c.rows)) h.asked ∙ (ap (λ (o : Option (List Part)). is_same_key (Some h.parts) o) h.held ∙ holds h.parts h.parts refl)))

  is_holder : (id : ℕ) → has_key_of row c id ≡ true → Holds row c id
  is_holder id is =
      let p = λ (columns : List ℕ). is_same_key (key_of columns row) (key_at columns id c.rows) in
      let a = passing p c.keys is in
      let b = both_keys (key_of a.item row) (key_at a.item id c.rows) a.passes in
      record { number = a.at; columns = a.item; parts = b.parts; is = a.is; asked = b.first; held = b.second }

  pub taken : (test : ℕ → Bool) (id : ℕ) → test id ≡ true → Holds row c id → is_taken test row c ≡ true
  taken test id so h =
      let found = there_is h.columns (row_at id c.rows) h.parts h.held in
      listed id (λ (other : ℕ). test other && has_key_of row c other) (and_true (test id) (has_key_of row c id) so (has_key id h)) c.rows found.0 found.1

  pub free : (test : ℕ → Bool) → ((id : ℕ) → test id ≡ true → Holds row c id → ⊥) → is_taken test row c ≡ false
  free test none =
      (elim (is_taken test row c) as (λ (b : Bool). is_taken test row c ≡ b → b ≡ false) [
        | true ↦ λ is.
            let a = passing (λ (other : ℕ × Row). test other.0 && has_key_of row c other.0) c.rows is in
            absurd (none a.item.0 (first_true (test a.item.0) (has_key_of row c a.item.0) a.passes) (is_holder a.item.0 (second_true (test a.item.0) (has_key_of row c a.item.0) a.passes)))
        | false ↦ λ is. refl
      ]) refl

not_full : (b : Bool) → ((let o : Option Bool = Some b in o ≡ Some true) → ⊥) → b ≡ false
not_full true unfull = absurd (unfull refl)
not_full false unfull = refl

-- a row is refused, or added
module _ (row : Row) where
  pub full_refused : (o : Option Content) → option_map is_full o ≡ Some true → option_and_then (new_refused row) o ≡ Some PROGRAM_LIMIT_EXCEEDED
  full_refused None is = absurd cc
  full_refused (Some c) is =
      let e : is_full c ≡ true = (let o : Some (is_full c) ≡ Some true = is in cc) in
      ap (λ (b : Bool). let o : Option State = cond b (Some PROGRAM_LIMIT_EXCEEDED) (cond (is_taken (λ other. true) row c) (Some UNIQUE_VIOLATION) None) in o) e

  pub taken_refused : (o : Option Content) (id : ℕ) → (option_map is_full o ≡ Some true → ⊥) → HoldsIn row id o → option_and_then (new_refused row) o ≡ Some UNIQUE_VIOLATION
  taken_refused None id unfull h = absurd h
  taken_refused (Some c) id unfull h =
      ap (λ (b : Bool). let o : Option State = cond b (Some PROGRAM_LIMIT_EXCEEDED) (cond (is_taken (λ other. true) row c) (Some UNIQUE_VIOLATION) None) in o) (not_full (is_full c) unfull)
      ∙ ap (λ (b : Bool). let o : Option State = cond b (Some UNIQUE_VIOLATION) None in o) (taken row c (λ other. true) id refl h)

  pub none_refused : (o : Option Content) → (option_map is_full o ≡ Some true → ⊥) → ((id : ℕ) → HoldsIn row id o → ⊥) → option_and_then (new_refused row) o ≡ None
  none_refused None unfull none = refl
  none_refused (Some c) unfull none =
      ap (λ (b : Bool). let o : Option State = cond b (Some PROGRAM_LIMIT_EXCEEDED) (cond (is_taken (λ other. true) row c) (Some UNIQUE_VIOLATION) None) in o) (not_full (is_full c) unfull)
      ∙ ap (λ (b : Bool). let o : Option State = cond b (Some UNIQUE_VIOLATION) None in o) (free row c (λ other. true) (λ id so h. none id h))

-- the same of the row in the place of another
module _ (row : Row) (id : ℕ) where
  pub away : (holder : ℕ) → (holder ≡ id → ⊥) → not (nat_eq holder id) ≡ true
  away holder ne = ap not (other_number holder id ne)

  pub apart : (holder : ℕ) → not (nat_eq holder id) ≡ true → holder ≡ id → ⊥
  apart holder so is =
      let same : nat_eq holder id ≡ true = ap (λ (n : ℕ). nat_eq holder n) (sym is) ∙ own_number holder in
      let e : false ≡ true = sym (ap not same) ∙ so in cc

  pub other_taken : (o : Option Content) (holder : ℕ) → (holder ≡ id → ⊥) → HoldsIn row holder o → option_and_then (other_refused id row) o ≡ Some UNIQUE_VIOLATION
  other_taken None holder ne h = absurd h
  other_taken (Some c) holder ne h =
      ap (λ (b : Bool). let o : Option State = cond b (Some UNIQUE_VIOLATION) None in o) (taken row c (λ other. not (nat_eq other id)) holder (away holder ne) h)

  pub other_free : (o : Option Content) → ((holder : ℕ) → HoldsIn row holder o → holder ≡ id) → option_and_then (other_refused id row) o ≡ None
  other_free None none = refl
  other_free (Some c) none =
      ap (λ (b : Bool). let o : Option State = cond b (Some UNIQUE_VIOLATION) None in o) (free row c (λ other. not (nat_eq other id)) (λ holder so h. apart holder so (none holder h)))

-- the answers of a table, and the tables
module _ (name : List ℕ) (row : Row) (ts : List Named) where
  pub added : (now : List Named) → (is_full_named name ts ≡ Some true → ⊥) → ((id : ℕ) → HoldsIn row id (content_named name ts) → ⊥) → now ≡ on_table name (inserted row) ts → with_row name None row ts ≡ Ok now
  added now unfull none is =
      ap (λ (o : Option State). unless o (on_table name (inserted row) ts)) (none_refused row (content_named name ts) unfull none)
      ∙ ap (λ (l : List Named). let r : Result (List Named) State = Ok l in r) (sym is)

  pub not_added : (A : Type 0) (r : Result ℕ TableFail) (why : TableFail) (now : List Named) → r ≡ Err why → (r ≡ Err Full) ↔ (is_full_named name ts ≡ Some true)
      → ((id : ℕ) → r ≡ Err (Taken id) → HoldsIn row id (content_named name ts)) → Leads {A = A} (with_row name None row ts) (Err (refusal_of why)) now
  not_added A r Full now is full holds-it =
      ap (λ (o : Option State). unless o (on_table name (inserted row) ts)) (full_refused row (content_named name ts) (full.0 is))
  not_added A r (Taken id) now is full holds-it =
      ap (λ (o : Option State). unless o (on_table name (inserted row) ts))
      (taken_refused row (content_named name ts) id (λ f. let e : (let r : Result ℕ TableFail = Err (Taken id) in r ≡ Err Full) = sym is ∙ full.1 f in unlike id e) (holds-it id is))
    where
      unlike : (id : ℕ) → (let r : Result ℕ TableFail = Err (Taken id) in r ≡ Err Full) → ⊥
      unlike id e = cc
  not_added A r fail.Memory now is full holds-it = tt

  module _ (id : ℕ) where
    pub replaced_by : (now : List Named) → ((holder : ℕ) → HoldsIn row holder (content_named name ts) → holder ≡ id) → now ≡ on_table name (replaced id row) ts → with_row name (Some id) row ts ≡ Ok now
    replaced_by now none is =
        ap (λ (o : Option State). unless o (on_table name (replaced id row) ts)) (other_free row id (content_named name ts) none)
        ∙ ap (λ (l : List Named). let r : Result (List Named) State = Ok l in r) (sym is)

    pub not_replaced : (A : Type 0) {T : Type 0} (r : Result T TableFail) (why : TableFail) (now : List Named) → r ≡ Err why → (r ≡ Err Full → ⊥)
        → ((holder : ℕ) → r ≡ Err (Taken holder) → (holder ≢ id) × HoldsIn row holder (content_named name ts)) → Leads {A = A} (with_row name (Some id) row ts) (Err (refusal_of why)) now
    not_replaced A r Full now is full holds-it = absurd (full is)
    not_replaced A r (Taken holder) now is full holds-it =
        let h = holds-it holder is in
        ap (λ (o : Option State). unless o (on_table name (replaced id row) ts)) (other_taken row id (content_named name ts) holder h.0 h.1)
    not_replaced A r fail.Memory now is full holds-it = tt
