-- Proofs that other crates' proofs may cite; no definition. Rows of other keys than the one that WHERE asks for are turned down.
use Rattle.std.proofs.Common.{◌≡◌, ◌≤◌, ◌+◌, ◌⊎◌, inl, inr, sym, ap, ◌∙◌, ℕ, Bool, true, false, cond, ◌&&◌, List, [], ◌∷◌, ◌++◌, Option, Some, arith}
use Rattle.std.specs.Prelude.{option_and_then}
use Rattle.pl_journal.proofs.Asked.{first_so, keyed, second_so}
use Rattle.pl_journal.specs.ByKey.{IsFound}
use Rattle.pl_journal.proofs.Truths.{other_number, own_number}
use Rattle.pl_resolved.specs.declared.expression.RExpr.{RExpr}
use Rattle.pl_rules.specs.Rules.{all_pass, fits, holds, none_lacks}
use Rattle.pl_tables.specs.Named.{Named}
use Rattle.pl_tables.specs.Rows.{row_at}
use Rattle.pl_unique.specs.Key.{key_of}
use Rattle.pl_value.specs.Frames.{Frame, Row}
use Rattle.pl_value.specs.Meaning.{Calls, Sub, passes, value}
use Rattle.pl_value.specs.Reading.{got}

-- so is each row of the table but the one that was found, whatever calls and queries inside give
module _ {W : Type 0} (calls : Calls W) (sub : Sub W) {name : List ℕ} {x : RExpr} {around : Frame} {ts : List Named} {found : Option ℕ} (by : IsFound name x around ts found) where
  pub down : (id : ℕ) (row : Row) → row_at id by.content.rows ≡ Some row → holds by.table row ≡ true → (found ≡ Some id → ⊥) → (w : W) → passes (value calls sub x) (around ++ row ∷ []) w ≡ got false w
  down id row there rules other =
      let both = first_so (fits by.table.columns row && none_lacks by.table.columns row) (all_pass by.table.rules row) rules in
      let key = by.only.by in
      either (keyed calls sub around row by.table.columns (first_so (fits by.table.columns row) (none_lacks by.table.columns row) both) (second_so (fits by.table.columns row) (none_lacks by.table.columns row) both) key.columns x by.only.asked key.parts by.only.asks key.key)
    where
      either : (key_of by.only.by.columns row ≡ Some by.only.by.parts) ⊎ ((w : W) → passes (value calls sub x) (around ++ row ∷ []) w ≡ got false w) → (w : W) → passes (value calls sub x) (around ++ row ∷ []) w ≡ got false w
      either (inl is) = absurd (other ((by.only.by.only id).1 (ap (λ (o : Option Row). option_and_then (key_of by.only.by.columns) o) there ∙ is)))
      either (inr down) = down

-- rows that are the last of all: the first of them stands there under its id, and the others are the last, too
module _ (all : List (ℕ × Row)) (low : ℕ) (row : ℕ × Row) (rows : List (ℕ × Row)) (le : low ≤ row.0) (last : (id : ℕ) → low ≤ id → row_at id (row ∷ rows) ≡ row_at id all) where
  pub head_there : row_at row.0 all ≡ Some row.1
  head_there = sym (last row.0 le) ∙ ap (λ (b : Bool). cond b (Some row.1) (row_at row.0 rows)) (own_number row.0)

  pub others_last : (id : ℕ) → row.0 + 1 ≤ id → row_at id rows ≡ row_at id all
  others_last id above =
      sym (ap (λ (b : Bool). cond b (Some row.1) (row_at id rows)) (other_number id row.0 (λ e. omega (arith, e, above)))) ∙ last id (omega (arith, le, above))
