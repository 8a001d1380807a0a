-- Rows of other keys than the one that WHERE asks for may be left out of a query.
use Rattle.std.proofs.Common.{◌≡◌, ◌<◌, ◌≤◌, ◌+◌, inl, inr, refl, sym, ap, ◌∙◌, subst, ℕ, Bool, true, false, cond, nat_eq, List, [], ◌∷◌, map, Option, Some, None, arith}
use Rattle.std.specs.List.{cons_option}
use Rattle.pl_journal.proofs.Truths.{chained, equal_number, none_some, same_number, some_is, true_false}
use Rattle.pl_journal.proofs.TurnedDown.{down, head_there, others_last}
use Rattle.pl_journal.specs.ByKey.{IsFound, row_found}
use Rattle.pl_journal.specs.Rows.{tables_of}
use Rattle.pl_journal.specs.Sound.{AreRows}
use Rattle.pl_query.specs.LeftOut.{LeavesOut, TurnsDown}
use Rattle.pl_resolved.specs.declared.expression.RExpr.{RExpr}
use Rattle.pl_rules.specs.Rules.{holds}
use Rattle.pl_tables.specs.Named as tables
use Rattle.pl_tables.specs.Named.{Named}
use Rattle.pl_tables.specs.Rows.{Content, row_at}
use Rattle.pl_unique.specs.Key.{key_of}
use Rattle.pl_value.specs.Frames.{Frame, Row}

module _ (W : Type 0) {name : List ℕ} {x : RExpr} {around : Frame} {ts : List Named} {found : Option ℕ} (by : IsFound name x around ts found) where
  abbrev all : List (ℕ × Row)
  all = by.content.rows

  -- rows are the last of all
  abbrev AreLast : ℕ → List (ℕ × Row) → Type 0
  AreLast low rows = (id : ℕ) → low ≤ id → row_at id rows ≡ row_at id all

  abbrev cells : List (ℕ × Row) → List Row
  cells rows = map (λ (entry : ℕ × Row). entry.1) rows

  turned_down : (low : ℕ) (row : ℕ × Row) (rows : List (ℕ × Row)) → low ≤ row.0 → AreLast low (row ∷ rows) → holds by.table row.1 ≡ true → (found ≡ Some row.0 → ⊥) → TurnsDown W x around row.1
  turned_down low row rows le last rules other = λ calls sub w. down calls sub by row.0 row.1 (head_there all low row rows le last) rules other w

  -- where the one that was found isn't among them
  rest_out : (low : ℕ) (rows : List (ℕ × Row)) (high : ℕ) → AreRows by.table low rows high → AreLast low rows → ((n : ℕ) → found ≡ Some n → n < low) → LeavesOut W x around (cells rows) []
  rest_out low [] high are last below = refl
  rest_out low (row ∷ rows) high are last below =
      let from = are.0 in
      inl (turned_down low row rows from last are.1 (λ e. (let less = below row.0 e in absurd (omega (arith, less, from)))), rest_out (row.0 + 1) rows high are.2 (others_last all low row rows from last) (λ n e. (let less = below n e in omega (arith, less, from))))

  -- where it is
  others_out : (n : ℕ) → found ≡ Some n → (low : ℕ) (rows : List (ℕ × Row)) (high : ℕ) → AreRows by.table low rows high → AreLast low rows → (there : Row) → row_at n rows ≡ Some there → LeavesOut W x around (cells rows) (there ∷ [])
  others_out n is low [] high are last there has = absurd (none_some there has)
  others_out n is low (row ∷ rows) high are last there has =
      let from = are.0 in
      (elim (nat_eq n row.0) as (λ (b : Bool). nat_eq n row.0 ≡ b → cond b (Some row.1) (row_at n rows) ≡ Some there → LeavesOut W x around (cells (row ∷ rows)) (there ∷ [])) [
        | true ↦ λ e h.
            let own : n ≡ row.0 = same_number n row.0 e in
            inr (
              [],
              ap (λ (r : Row). r ∷ []) (sym (some_is row.1 there h)),
              rest_out (row.0 + 1) rows high are.2 (others_last all low row rows from last) (λ m e. (let o : m ≡ n = some_is m n (sym e ∙ is) in omega (arith, o, own))),
            )
        | false ↦ λ e h.
            inl (
              turned_down low row rows from last are.1 (λ o. true_false (sym (equal_number n row.0 (some_is n row.0 (sym is ∙ o))) ∙ e)),
              others_out n is (row.0 + 1) rows high are.2 (others_last all low row rows from last) there h,
            )
      ]) refl has

  -- all but the one that was found are left out
  pub left_out : LeavesOut W x around (tables_of ts name) (cons_option (row_found name found ts) [])
  left_out = subst (λ (o : Option Content). LeavesOut W x around (cells (tables.rows_of o)) (cons_option (row_found name found ts) [])) (sym by.is) (by_found found refl)
    where
      by_found : (o : Option ℕ) → found ≡ o → LeavesOut W x around (cells all) (cons_option (row_found name o ts) [])
      by_found None is = rest_out 1 all by.content.next by.sound.rows (λ id le. refl) (λ n e. absurd (none_some n (sym is ∙ e)))
      by_found (Some n) is =
          let has = chained (key_of by.only.by.columns) (row_at n all) by.only.by.parts ((by.only.by.only n).0 is) in
          subst (λ (o : Option Row). LeavesOut W x around (cells all) (cons_option o [])) (sym (ap (λ (o : Option Content). row_at n (tables.rows_of o)) by.is ∙ has.1))
          (others_out n is 1 all by.content.next by.sound.rows (λ id le. refl) has.0 has.1)
