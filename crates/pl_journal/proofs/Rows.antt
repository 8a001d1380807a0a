-- Rows in the order of their ids.
use Rattle.std.proofs.Common.{◌≡◌, ◌<◌, ◌≤◌, ◌+◌, ℕ, max, List, [], ◌∷◌, ◌++◌, length, cond, nat_eq, Bool, true, false, Option, Some, None, refl, sym, ◌∙◌, ap, arith}
use Rattle.std.specs.Prelude.{is_some}
use Rattle.std.specs.BTreeMap.{insert_entry}
use Rattle.std.specs.Map.{remove_entry, set_value}
use Rattle.std.specs.Ordering.{MatchOrdering, nat_cmp, match_ordering}
use Rattle.std.specs.declared.cmp.Ordering.{Ordering}
use Rattle.std.specs.declared.cmp.Ordering.TheVariants.{Less, Equal, Greater}
use Rattle.std.proofs.lemmas.Cmp.{ranked}
use Rattle.pl_catalog.specs.declared.object.TableDef.{TableDef}
use Rattle.pl_journal.specs.Sound.{AreRows}
use Rattle.pl_journal.proofs.Truths.{equal_number, false_true, none_some, other_number, own_number, same_number}
use Rattle.pl_rules.specs.Rules.{holds}
use Rattle.pl_tables.specs.Rows.{row_at}
use Rattle.pl_value.specs.Frames.{Row}

abbrev pub Rows : Type 0
Rows = List (ℕ × Row)

-- ---- a row is put under an id

pub put_found : (id : ℕ) (new : Row) (rows : Rows) → row_at id (insert_entry nat_cmp rows id new) ≡ Some new
put_found id new [] = ap (λ (b : Bool). let o : Option Row = cond b (Some new) None in o) (own_number id)
put_found id new (row ∷ rows) = by_order (nat_cmp id row.0) (ranked id row.0 (nat_cmp id row.0) refl) (put_found id new rows)
  where
    by_order : (r : Ordering) → MatchOrdering r (id < row.0) (id ≡ row.0) (row.0 < id) → row_at id (insert_entry nat_cmp rows id new) ≡ Some new
        → row_at id (match_ordering r ((id, new) ∷ row ∷ rows) ((row.0, new) ∷ rows) (row ∷ insert_entry nat_cmp rows id new)) ≡ Some new
    by_order Less less rest = ap (λ (b : Bool). cond b (Some new) (row_at id (row ∷ rows))) (own_number id)
    by_order Equal same rest = ap (λ (b : Bool). cond b (Some new) (row_at id rows)) (equal_number id row.0 same)
    by_order Greater more rest = ap (λ (b : Bool). cond b (Some row.1) (row_at id (insert_entry nat_cmp rows id new))) (other_number id row.0 (λ e. omega (arith, e, more))) ∙ rest

pub put_others : (id other : ℕ) (new : Row) (rows : Rows) → nat_eq other id ≡ false → row_at other (insert_entry nat_cmp rows id new) ≡ row_at other rows
put_others id other new [] differs = ap (λ (b : Bool). let o : Option Row = cond b (Some new) None in o) differs
put_others id other new (row ∷ rows) differs = by_order (nat_cmp id row.0) (ranked id row.0 (nat_cmp id row.0) refl) (put_others id other new rows differs)
  where
    by_order : (r : Ordering) → MatchOrdering r (id < row.0) (id ≡ row.0) (row.0 < id) → row_at other (insert_entry nat_cmp rows id new) ≡ row_at other rows
        → row_at other (match_ordering r ((id, new) ∷ row ∷ rows) ((row.0, new) ∷ rows) (row ∷ insert_entry nat_cmp rows id new)) ≡ row_at other (row ∷ rows)
    by_order Less less rest = ap (λ (b : Bool). cond b (Some new) (row_at other (row ∷ rows))) differs
    by_order Equal same rest =
        let away : nat_eq other row.0 ≡ false = ap (λ (n : ℕ). nat_eq other n) (sym same) ∙ differs in
        ap (λ (b : Bool). cond b (Some new) (row_at other rows)) away ∙ sym (ap (λ (b : Bool). cond b (Some row.1) (row_at other rows)) away)
    by_order Greater more rest = ap (λ (o : Option Row). cond (nat_eq other row.0) (Some row.1) o) rest

-- how many they are then
pub put_count : (id : ℕ) (new : Row) (rows : Rows) → length (insert_entry nat_cmp rows id new) ≤ length rows + 1
put_count id new [] = omega arith
put_count id new (row ∷ rows) = by_order (nat_cmp id row.0) (put_count id new rows)
  where
    by_order : (r : Ordering) → length (insert_entry nat_cmp rows id new) ≤ length rows + 1 → length (match_ordering r ((id, new) ∷ row ∷ rows) ((row.0, new) ∷ rows) (row ∷ insert_entry nat_cmp rows id new)) ≤ length (row ∷ rows) + 1
    by_order Less less = omega arith
    by_order Equal less = omega arith
    by_order Greater less = omega (arith, less)

pub remove_count : (id : ℕ) (rows : Rows) → length (remove_entry (nat_eq id) rows) ≤ length rows
remove_count id [] = omega arith
remove_count id (row ∷ rows) = by_test (nat_eq id row.0) (remove_count id rows)
  where
    by_test : (b : Bool) → length (remove_entry (nat_eq id) rows) ≤ length rows → length (cond b rows (row ∷ remove_entry (nat_eq id) rows)) ≤ length (row ∷ rows)
    by_test true less = omega arith
    by_test false less = omega (arith, less)

-- ---- rows whose ids rise

module _ (table : TableDef) where
  pub rows_end : (low : ℕ) (rows : Rows) (high : ℕ) → AreRows table low rows high → low ≤ high
  rows_end low [] high are = are
  rows_end low (row ∷ rows) high are = let end = rows_end (row.0 + 1) rows high are.2 in omega (arith, are.0, end)

  pub lower : (low low' : ℕ) (rows : Rows) (high : ℕ) → low ≤ low' → AreRows table low' rows high → AreRows table low rows high
  lower low low' [] high le are = omega (arith, le, are)
  lower low low' (row ∷ rows) high le are = (omega (arith, le, are.0), are.1, are.2)

  pub higher : (low : ℕ) (rows : Rows) (high high' : ℕ) → high ≤ high' → AreRows table low rows high → AreRows table low rows high'
  higher low [] high high' le are = omega (arith, le, are)
  higher low (row ∷ rows) high high' le are = (are.0, are.1, higher (row.0 + 1) rows high high' le are.2)

  -- a row that is there
  pub within : (id low : ℕ) (rows : Rows) (high : ℕ) (found : Row) → AreRows table low rows high → row_at id rows ≡ Some found → (low ≤ id) × (id < high)
  within id low [] high found are is = absurd (none_some found is)
  within id low (row ∷ rows) high found are is =
      (elim (nat_eq id row.0) as (λ (b : Bool). nat_eq id row.0 ≡ b → cond b (Some row.1) (row_at id rows) ≡ Some found → (low ≤ id) × (id < high)) [
        | true ↦ λ e h.
            let n : id ≡ row.0 = same_number id row.0 e in
            let end = rows_end (row.0 + 1) rows high are.2 in
            let start = are.0 in
            (omega (arith, n, start), omega (arith, n, end))
        | false ↦ λ e h.
            let rest = within id (row.0 + 1) rows high found are.2 h in
            let start = are.0 in
            let low_one = rest.0 in
            (omega (arith, start, low_one), rest.1)
      ]) refl is

  -- none is there below them
  pub below_none : (id low : ℕ) (rows : Rows) (high : ℕ) → id < low → AreRows table low rows high → row_at id rows ≡ None
  below_none id low [] high less are = refl
  below_none id low (row ∷ rows) high less are =
      let start = are.0 in
      ap (λ (b : Bool). cond b (Some row.1) (row_at id rows)) (other_number id row.0 (λ e. omega (arith, less, start, e)))
      ∙ below_none id (row.0 + 1) rows high (omega (arith, less, start)) are.2

  -- a row is put among them
  pub put_rows : (id : ℕ) (new : Row) (low : ℕ) (rows : Rows) (high : ℕ) → low ≤ id → holds table new ≡ true → AreRows table low rows high → AreRows table low (insert_entry nat_cmp rows id new) (max high (id + 1))
  put_rows id new low [] high from fit are = (from, fit, omega arith)
  put_rows id new low (row ∷ rows) high from fit are = by_order (nat_cmp id row.0) (ranked id row.0 (nat_cmp id row.0) refl) (λ le. put_rows id new (row.0 + 1) rows high le fit are.2)
    where
      by_order : (r : Ordering) → MatchOrdering r (id < row.0) (id ≡ row.0) (row.0 < id) → (row.0 + 1 ≤ id → AreRows table (row.0 + 1) (insert_entry nat_cmp rows id new) (max high (id + 1))) → AreRows table low (match_ordering r ((id, new) ∷ row ∷ rows) ((row.0, new) ∷ rows) (row ∷ insert_entry nat_cmp rows id new)) (max high (id + 1))
      by_order Less less rest = (from, fit, (omega (arith, less), are.1, higher (row.0 + 1) rows high (max high (id + 1)) (omega arith) are.2))
      by_order Equal same rest = (are.0, fit, higher (row.0 + 1) rows high (max high (id + 1)) (omega arith) are.2)
      by_order Greater more rest = (are.0, are.1, rest (omega (arith, more)))

  -- behind them
  pub put_last : (id : ℕ) (new : Row) (low : ℕ) (rows : Rows) (high : ℕ) → high ≤ id → AreRows table low rows high → insert_entry nat_cmp rows id new ≡ rows ++ (id, new) ∷ []
  put_last id new low [] high le are = refl
  put_last id new low (row ∷ rows) high le are = by_order (nat_cmp id row.0) (ranked id row.0 (nat_cmp id row.0) refl) (rows_end (row.0 + 1) rows high are.2) (put_last id new (row.0 + 1) rows high le are.2)
    where
      by_order : (r : Ordering) → MatchOrdering r (id < row.0) (id ≡ row.0) (row.0 < id) → row.0 + 1 ≤ high → insert_entry nat_cmp rows id new ≡ rows ++ (id, new) ∷ []
          → match_ordering r ((id, new) ∷ row ∷ rows) ((row.0, new) ∷ rows) (row ∷ insert_entry nat_cmp rows id new) ≡ row ∷ (rows ++ (id, new) ∷ [])
      by_order Less less end rest = absurd (omega (arith, less, end, le))
      by_order Equal same end rest = absurd (omega (arith, same, end, le))
      by_order Greater more end rest = ap (λ (l : Rows). row ∷ l) rest

  -- one that is there isn't below all of them
  not_before : (id : ℕ) (row : ℕ × Row) (rows : Rows) (high : ℕ) → AreRows table (row.0 + 1) rows high → holds table row.1 ≡ true → is_some (row_at id (row ∷ rows)) ≡ true → id < row.0 → ⊥
  not_before id row rows high are fit there less =
      let none = below_none id (id + 1) (row ∷ rows) high (omega arith) (omega (arith, less), fit, are) in
      false_true (ap (λ (o : Option Row). is_some o) (sym none) ∙ there)

  -- in the place of the one of its id
  pub same_count : (id : ℕ) (new : Row) (low : ℕ) (rows : Rows) (high : ℕ) → AreRows table low rows high → is_some (row_at id rows) ≡ true → length (insert_entry nat_cmp rows id new) ≡ length rows
  same_count id new low [] high are there = absurd (false_true there)
  same_count id new low (row ∷ rows) high are there = by_order (nat_cmp id row.0) (ranked id row.0 (nat_cmp id row.0) refl) (λ h. same_count id new (row.0 + 1) rows high are.2 h)
    where
      by_order : (r : Ordering) → MatchOrdering r (id < row.0) (id ≡ row.0) (row.0 < id) → (is_some (row_at id rows) ≡ true → length (insert_entry nat_cmp rows id new) ≡ length rows) → length (match_ordering r ((id, new) ∷ row ∷ rows) ((row.0, new) ∷ rows) (row ∷ insert_entry nat_cmp rows id new)) ≡ length (row ∷ rows)
      by_order Less less same = absurd (not_before id row rows high are.2 are.1 there less)
      by_order Equal is same = refl
      by_order Greater more same =
          let rest : is_some (row_at id rows) ≡ true = sym (ap (λ (b : Bool). is_some (cond b (Some row.1) (row_at id rows))) (other_number id row.0 (λ e. omega (arith, e, more)))) ∙ there in
          let count = same rest in omega (arith, count)

  pub put_over : (id : ℕ) (new : Row) (low : ℕ) (rows : Rows) (high : ℕ) → AreRows table low rows high → is_some (row_at id rows) ≡ true → insert_entry nat_cmp rows id new ≡ set_value (nat_eq id) rows new
  put_over id new low [] high are there = absurd (false_true there)
  put_over id new low (row ∷ rows) high are there = by_order (nat_cmp id row.0) (ranked id row.0 (nat_cmp id row.0) refl) (λ h. put_over id new (row.0 + 1) rows high are.2 h)
    where
      by_order : (r : Ordering) → MatchOrdering r (id < row.0) (id ≡ row.0) (row.0 < id) → (is_some (row_at id rows) ≡ true → insert_entry nat_cmp rows id new ≡ set_value (nat_eq id) rows new)
          → match_ordering r ((id, new) ∷ row ∷ rows) ((row.0, new) ∷ rows) (row ∷ insert_entry nat_cmp rows id new) ≡ cond (nat_eq id row.0) ((row.0, new) ∷ rows) (row ∷ set_value (nat_eq id) rows new)
      by_order Less less same = absurd (not_before id row rows high are.2 are.1 there less)
      by_order Equal is same = sym (ap (λ (b : Bool). cond b ((row.0, new) ∷ rows) (row ∷ set_value (nat_eq id) rows new)) (equal_number id row.0 is))
      by_order Greater more same =
          let away : nat_eq id row.0 ≡ false = other_number id row.0 (λ e. omega (arith, e, more)) in
          let rest : is_some (row_at id rows) ≡ true = sym (ap (λ (b : Bool). is_some (cond b (Some row.1) (row_at id rows))) away) ∙ there in
          ap (λ (l : Rows). row ∷ l) (same rest) ∙ sym (ap (λ (b : Bool). cond b ((row.0, new) ∷ rows) (row ∷ set_value (nat_eq id) rows new)) away)

  -- a row is removed
  pub remove_rows : (id low : ℕ) (rows : Rows) (high : ℕ) → AreRows table low rows high → AreRows table low (remove_entry (nat_eq id) rows) high
  remove_rows id low [] high are = are
  remove_rows id low (row ∷ rows) high are = by_test (nat_eq id row.0) (remove_rows id (row.0 + 1) rows high are.2)
    where
      by_test : (b : Bool) → AreRows table (row.0 + 1) (remove_entry (nat_eq id) rows) high → AreRows table low (cond b rows (row ∷ remove_entry (nat_eq id) rows)) high
      by_test true rest = let start = are.0 in lower low (row.0 + 1) rows high (omega (arith, start)) are.2
      by_test false rest = (are.0, are.1, rest)

  -- one that is there then was there before
  pub removed_found : (id other low : ℕ) (rows : Rows) (high : ℕ) (found : Row) → AreRows table low rows high → row_at other (remove_entry (nat_eq id) rows) ≡ Some found → row_at other rows ≡ Some found
  removed_found id other low [] high found are is = is
  removed_found id other low (row ∷ rows) high found are is =
      (elim (nat_eq id row.0) as (λ (b : Bool). row_at other (cond b rows (row ∷ remove_entry (nat_eq id) rows)) ≡ Some found → row_at other (row ∷ rows) ≡ Some found) [
        | true ↦ λ h.
            let inside = within other (row.0 + 1) rows high found are.2 h in
            let start = inside.0 in
            ap (λ (b : Bool). cond b (Some row.1) (row_at other rows)) (other_number other row.0 (λ e. omega (arith, e, start))) ∙ h
        | false ↦ λ h.
            (elim (nat_eq other row.0) as (λ (b : Bool). cond b (Some row.1) (row_at other (remove_entry (nat_eq id) rows)) ≡ Some found → cond b (Some row.1) (row_at other rows) ≡ Some found) [
              | true ↦ λ k. k
              | false ↦ λ k. removed_found id other (row.0 + 1) rows high found are.2 k
            ]) h
      ]) is
