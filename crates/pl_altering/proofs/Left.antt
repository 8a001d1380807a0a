-- Rows that WHERE turns down, since they have another key, may be left out.
use Rattle.std.proofs.Common.{◌≡◌, ◌<◌, ◌≤◌, ◌+◌, ◌∙◌, ℕ, Bool, true, false, cond, nat_eq, List, [], ◌∷◌, Option, Some, None, ap, arith, inl, inr, refl, sym}
use Rattle.std.specs.Prelude.{if◌then◌else◌, option_map}
use Rattle.pl_altering.specs.Entries.{AreEnoughFor, AreVisited, entry_found}
use Rattle.pl_world.proofs.of_pl_change.TurnedDown.{down, head_there, others_last}
use Rattle.pl_world.specs.pl_change.ByKey.{IsFound}
use Rattle.pl_world.proofs.of_pl_journal.Truths.{chained, equal_number, none_some, same_number, some_is, true_false}
use Rattle.pl_world.specs.pl_journal.Sound.{AreRows}
use Rattle.pl_names.specs.Names.{Name}
use Rattle.pl_product.specs.Product.{passes}
use Rattle.pl_query.specs.Rows.{in_turn}
use Rattle.pl_resolved.specs.declared.expression.RExpr.{RExpr}
use Rattle.pl_tables.specs.Named as tables
use Rattle.pl_tables.specs.Named.{Named, rows_named}
use Rattle.pl_tables.specs.Rows.{Content, row_at}
use Rattle.pl_tables.specs.Slots.{before}
use Rattle.pl_targets.specs.declared.change.RWhat.{RWhat}
use Rattle.pl_targets.specs.declared.change.RWhat.TheVariants.{Insert, Update, Delete}
use Rattle.pl_value.specs.Frames.{Frame, Row}
use Rattle.pl_value.specs.Meaning.{value}
use Rattle.pl_value.specs.Reading.{Reading, got, fails, then_read}
use Rattle.pl_world.specs.Calls.{Within}
use Rattle.pl_world.specs.Changes.{Entry, Setting, behind_row, deletes, does, if_still, sets, takes, updates, values_if}

abbrev Turn : Type 0
Turn = Entry → List Row → Within → Reading Within (List Row)

then_same : {A B : Type 0} (q : Reading Within A) (k k' : A → Within → Reading Within B) → ((a : A) (x : Within) → k a x ≡ k' a x) → then_read q k ≡ then_read q k'
then_same (got a x) k k' same = same a x
then_same (fails state x) k k' same = refl

same_entry : (entry : Entry) (n : ℕ) (row : Row) → n ≡ entry.0 → entry.1 ≡ row → entry ≡ (let e : Entry = (n, row) in e)
same_entry entry n row number same =
    ap (λ (m : ℕ). let e : Entry = (m, entry.1) in e) (sym number) ∙ ap (λ (row : Row). let e : Entry = (n, row) in e) same

module _ (s : Setting) where
  -- ---- a row that is turned down is passed over

  abbrev PassesOver : Option RExpr → Turn → Type 0
  PassesOver condition turn =
      (entry : Entry) → ((x : Within) → passes (option_map (value s.calls s.inner) condition) (behind_row s entry.1) x ≡ got false x) → (done : List Row) (x : Within) → turn entry done x ≡ got done x

  updates_over : (columns : List ℕ) (list : List RExpr) (condition : Option RExpr) → PassesOver condition (updates s columns list condition)
  updates_over columns list condition entry down done x =
      ap (λ (r : Reading Within Bool). then_read {A = Option Row} {B = List Row} (then_read {B = Option Row} r (λ b x. values_if s b list (behind_row s entry.1) x)) (λ vs x. sets s columns entry vs done x)) (down x)

  deletes_over : (condition : Option RExpr) → PassesOver condition (deletes s condition)
  deletes_over condition entry down done x =
      ap (λ (r : Reading Within Bool). then_read {B = List Row} r (λ b x. if b then if_still s entry (takes s entry done) x else got done x)) (down x)

  -- ---- the rows that are left

  module _ (condition : RExpr) (turn : Turn) (over : PassesOver (Some condition) turn) (name : Name) (ts : List Named) (found : Option ℕ) (by : IsFound name condition s.around ts found) where
    abbrev all : List Entry
    all = by.content.rows

    -- rows are the last of all rows
    abbrev AreLast : ℕ → List Entry → Type 0
    AreLast low rows = (id : ℕ) → low ≤ id → row_at id rows ≡ row_at id all

    -- where the one that was found isn't among them
    rest_skipped : (low : ℕ) (rows : List Entry) (high : ℕ) → AreRows by.table low rows high → AreLast low rows → ((n : ℕ) → found ≡ Some n → n < low) → (done : List Row) (x : Within) → in_turn turn rows done x ≡ got done x
    rest_skipped low [] high are last below done x = refl
    rest_skipped low (row ∷ rows) high are last below done x =
        let from = are.0 in
        ap (λ (r : Reading Within (List Row)). then_read {B = List Row} r (λ done x. in_turn turn rows done x))
        (over row (down s.calls s.inner by row.0 row.1 (head_there all low row rows from last) are.1 (λ e. (let less = below row.0 e in absurd (omega (arith, less, from))))) done x)
        ∙ rest_skipped (row.0 + 1) rows high are.2 (others_last all low row rows from last) (λ n e. (let less = below n e in omega (arith, less, from))) done x

    -- where it is
    one_left : (n : ℕ) → found ≡ Some n → (low : ℕ) (rows : List Entry) (high : ℕ) → AreRows by.table low rows high → AreLast low rows → (there : Row) → row_at n rows ≡ Some there → (done : List Row) (x : Within)
        → in_turn turn rows done x ≡ in_turn turn ((n, there) ∷ []) done x
    one_left n is low [] high are last there has done x = absurd (none_some there has)
    one_left n is low (row ∷ rows) high are last there has done x =
        let from = are.0 in
        (elim (nat_eq n row.0) as (λ (b : Bool). nat_eq n row.0 ≡ b → cond b (Some row.1) (row_at n rows) ≡ Some there → in_turn turn (row ∷ rows) done x ≡ in_turn turn ((n, there) ∷ []) done x) [
          | true ↦ λ e h.
              let own : n ≡ row.0 = same_number n row.0 e in
              then_same (turn row done x) (λ done x. in_turn turn rows done x) (λ done x. got done x)
              (λ done x. rest_skipped (row.0 + 1) rows high are.2 (others_last all low row rows from last) (λ m e. (let o : m ≡ n = some_is m n (sym e ∙ is) in omega (arith, o, own))) done x)
              ∙ ap (λ (entry : Entry). in_turn turn (entry ∷ []) done x) (same_entry row n there own (some_is row.1 there h))
          | false ↦ λ e h.
              ap (λ (r : Reading Within (List Row)). then_read {B = List Row} r (λ done x. in_turn turn rows done x))
              (over row (down s.calls s.inner by row.0 row.1 (head_there all low row rows from last) are.1 (λ o. true_false (sym (equal_number n row.0 (some_is n row.0 (sym is ∙ o))) ∙ e))) done x)
              ∙ one_left n is (row.0 + 1) rows high are.2 (others_last all low row rows from last) there h done x
        ]) refl has

    -- all rows or the one that was found
    left_alike : (x : Within) → in_turn turn (rows_named name ts) [] x ≡ in_turn turn (entry_found name found ts) [] x
    left_alike x = ap (λ (o : Option Content). in_turn turn (tables.rows_of o) [] x) by.is ∙ by_found found refl
      where
        by_found : (o : Option ℕ) → found ≡ o → in_turn turn all [] x ≡ in_turn turn (entry_found name o ts) [] x
        by_found None is = rest_skipped 1 all by.content.next by.sound.rows (λ id le. refl) (λ n e. absurd (none_some n (sym is ∙ e))) [] x
        by_found (Some n) is =
            let has = chained _ (row_at n all) by.only.by.parts ((by.only.by.only n).0 is) in
            one_left n is 1 all by.content.next by.sound.rows (λ id le. refl) has.0 has.1 [] x
            ∙ ap (λ (o : Option Row). in_turn turn (before n o []) [] x) (sym (ap (λ (o : Option Content). row_at n (tables.rows_of o)) by.is ∙ has.1))

  -- ---- commands

  module _ (name : Name) (ts : List Named) (kept : List Entry) (x : Within) where
    visited : (condition : Option RExpr) (turn : Turn) → PassesOver condition turn → AreVisited name condition s.around ts kept → in_turn turn kept [] x ≡ in_turn turn (rows_named name ts) [] x
    visited condition turn over (inl is) = ap (λ (rows : List Entry). in_turn turn rows [] x) is
    visited None turn over (inr (found, by, is)) = absurd by
    visited (Some c) turn over (inr (found, by, is)) = ap (λ (rows : List Entry). in_turn turn rows [] x) is ∙ sym (left_alike c turn over name ts found by x)

    -- a change over these rows is that over all rows
    pub enough : (outer : Frame) (what : RWhat) → AreEnoughFor what name s.around ts kept → does s outer kept what x ≡ does s outer (rows_named name ts) what x
    enough outer (Insert source) are = refl
    enough outer (Update columns list condition) are = visited condition (updates s columns list condition) (updates_over columns list condition) are
    enough outer (Delete condition) are = visited condition (deletes s condition) (deletes_over condition) are
