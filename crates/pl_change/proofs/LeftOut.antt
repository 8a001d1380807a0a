-- Rows that WHERE turns down may be left out.
use Rattle.std.proofs.Common.{◌≡◌, ◌<◌, ◌≤◌, ◌+◌, inl, inr, refl, sym, ap, ◌∙◌, ℕ, Bool, true, false, cond, nat_eq, List, [], ◌∷◌, ◌++◌, map, Option, Some, None, Result, Ok, Err, arith}
use Rattle.std.specs.Prelude.{option_and_then, option_map, IfOk}
use Rattle.std.specs.Map.{remove_entry, set_value}
use Rattle.pl_base.specs.declared.state.State.{State}
use Rattle.pl_journal.specs.pl_catalog.declared.object.Object.{Object}
use Rattle.pl_journal.specs.pl_catalog.declared.object.TableDef.{TableDef}
use Rattle.pl_journal.specs.pl_catalog.Objects.{table_named, tables_in}
use Rattle.pl_journal.proofs.Noted.{if_ok_then}
use Rattle.pl_journal.proofs.TurnedDown.{down, head_there, others_last}
use Rattle.pl_change.proofs.Turns.{row_there}
use Rattle.pl_change.specs.Running.{AreEnough, listed}
use Rattle.pl_journal.specs.ByKey.{IsFound}
use Rattle.pl_change.specs.Changes.{Progress, Setting, assigned, at_row, behind, deletes, if_some, ids, progress, returning, set_if, shown_if, takes, told, updates, values_if, writes}
use Rattle.pl_journal.proofs.OneTable.{content_changed}
use Rattle.pl_journal.proofs.Truths.{chained, equal_number, none_some, other_number, same_number, some_is, true_false}
use Rattle.pl_journal.specs.Sound.{AreRows}
use Rattle.pl_journal.specs.Writing.{other_refused, unless, unless_broken, with_row, written, written_by}
use Rattle.pl_product.specs.Product as product
use Rattle.pl_inside.specs.pl_query.Rows.{in_turn}
use Rattle.pl_resolved.specs.declared.expression.RExpr.{RExpr}
use Rattle.pl_journal.specs.pl_rules.Rules.{first_failure, holds}
use Rattle.pl_journal.specs.pl_rules.declared.rules.RuleFail.{RuleFail}
use Rattle.pl_tables.specs.Named as tables
use Rattle.pl_tables.specs.Named.{Named, content_named, on_table, row_named}
use Rattle.pl_tables.specs.Rows.{Content, removed, replaced, row_at}
use Rattle.pl_unique.specs.Key.{key_of}
use Rattle.pl_value.specs.Frames.{Row}
use Rattle.pl_value.specs.Meaning.{value}
use Rattle.pl_value.specs.Reading.{Reading, got, fails, settled, then_read}

-- ---- the other rows of a table that is changed

module _ (id other : ℕ) (apart : nat_eq other id ≡ false) where
  -- another number than the changed one
  beside : (n : ℕ) → nat_eq id n ≡ true → nat_eq other n ≡ false
  beside n is = ap (λ (n : ℕ). nat_eq other n) (sym (same_number id n is)) ∙ apart

  set_beside : (new : Row) (rows : List (ℕ × Row)) → row_at other (set_value (nat_eq id) rows new) ≡ row_at other rows
  set_beside new [] = refl
  set_beside new (row ∷ rows) =
      (elim (nat_eq id row.0) as (λ (b : Bool). nat_eq id row.0 ≡ b → row_at other (cond b ((row.0, new) ∷ rows) (row ∷ set_value (nat_eq id) rows new)) ≡ row_at other (row ∷ rows)) [
        | true ↦ λ e. ap (λ (b : Bool). cond b (Some new) (row_at other rows)) (beside row.0 e) ∙ sym (ap (λ (b : Bool). cond b (Some row.1) (row_at other rows)) (beside row.0 e))
        | false ↦ λ e. ap (λ (o : Option Row). cond (nat_eq other row.0) (Some row.1) o) (set_beside new rows)
      ]) refl

  removed_beside : (rows : List (ℕ × Row)) → row_at other (remove_entry (nat_eq id) rows) ≡ row_at other rows
  removed_beside [] = refl
  removed_beside (row ∷ rows) =
      (elim (nat_eq id row.0) as (λ (b : Bool). nat_eq id row.0 ≡ b → row_at other (cond b rows (row ∷ remove_entry (nat_eq id) rows)) ≡ row_at other (row ∷ rows)) [
        | true ↦ λ e. sym (ap (λ (b : Bool). cond b (Some row.1) (row_at other rows)) (beside row.0 e))
        | false ↦ λ e. ap (λ (o : Option Row). cond (nat_eq other row.0) (Some row.1) o) (removed_beside rows)
      ]) refl

-- a change of the table of this name that keeps a row of each table keeps it among all
named_beside : (name : List ℕ) (other : ℕ) (f : Content → Content) → ((c : Content) → row_at other (f c).rows ≡ row_at other c.rows) → (ts : List Named) → row_named name other (on_table name f ts) ≡ row_named name other ts
named_beside name other f keeps ts = ap (λ (o : Option Content). row_at other (tables.rows_of o)) (content_changed name f ts) ∙ by_content (content_named name ts)
  where
    by_content : (o : Option Content) → row_at other (tables.rows_of (option_map f o)) ≡ row_at other (tables.rows_of o)
    by_content None = refl
    by_content (Some c) = keeps c

-- ---- what was got

-- what was got is so
abbrev OnGot : {W A : Type 0} → Reading W A → (A → Type 0) → Type 0
OnGot (got x w) P = P x
OnGot (fails state w) P = Unit {0}

then_got : {W A B : Type 0} (q : Reading W A) (k : A → W → Reading W B) (P : B → Type 0) → ((x : A) (w : W) → OnGot (k x w) P) → OnGot (then_read q k) P
then_got (got x w) k P so = so x w
then_got (fails state w) k P so = tt

then_alike : {W A B : Type 0} (q : Reading W A) (k k' : A → W → Reading W B) (P : A → Type 0) → OnGot q P → ((x : A) (w : W) → P x → k x w ≡ k' x w) → then_read q k ≡ then_read q k'
then_alike (got x w) k k' P is same = same x w is
then_alike (fails state w) k k' P is same = refl

settled_got : {W A B : Type 0} (r : Result A State) (w : W) (k : A → W → Reading W B) (P : B → Type 0) → IfOk r (λ x. (w : W) → OnGot (k x w) P) → OnGot (then_read (settled r w) k) P
settled_got (Ok x) w k P so = so w
settled_got (Err state) w k P so = tt

-- ---- a row that is written, or goes, leaves the others

module _ (objects : List Object) (name : List ℕ) (id other : ℕ) (apart : nat_eq other id ≡ false) (row : Row) (ts : List Named) where
  abbrev Stays : List Named → Type 0
  Stays now = row_named name other now ≡ row_named name other ts

  unless_stays : (o : Option State) (now : List Named) → Stays now → IfOk (unless o now) Stays
  unless_stays None now is = is
  unless_stays (Some state) now is = tt

  broken_stays : (o : Option RuleFail) (r : Result (List Named) State) → IfOk r Stays → IfOk (unless_broken o r) Stays
  broken_stays None r is = is
  broken_stays (Some fail) r is = tt

  by_table : (o : Option TableDef) → IfOk (written_by o name (Some id) row ts) Stays
  by_table None = tt
  by_table (Some table) =
      broken_stays (first_failure table row) (with_row name (Some id) row ts)
      (unless_stays (option_and_then (other_refused id row) (content_named name ts)) (on_table name (replaced id row) ts)
      (named_beside name other (replaced id row) (λ c. set_beside id other apart row c.rows) ts))

  written_stays : IfOk (written objects name (Some id) row ts) Stays
  written_stays = by_table (table_named name (tables_in objects))

module _ {W : Type 0} (s : Setting W) where
  -- the others are as they were
  abbrev Keeps : ℕ → Progress → Progress → Type 0
  Keeps id p now = (other : ℕ) → nat_eq other id ≡ false → row_named s.change.table other now.tables ≡ row_named s.change.table other p.tables

  abbrev KeepsOthers : (ℕ → Progress → W → Reading W Progress) → Type 0
  KeepsOthers does = (id other : ℕ) → nat_eq other id ≡ false → (p : Progress) (w : W) → OnGot (does id p w) (λ now. row_named s.change.table other now.tables ≡ row_named s.change.table other p.tables)

  told_keeps : (row : Row) (p : Progress) (w : W) (P : List Named → Type 0) → P p.tables → OnGot (told s row p w) (λ now. P now.tables)
  told_keeps row p w P is = then_got (returning s row w) (λ shown w. got (progress p.tables (p.returned ++ shown ∷ [])) w) (λ now. P now.tables) (λ shown w. is)

  writes_keeps : (id other : ℕ) → nat_eq other id ≡ false → (o : Option Row) (p : Progress) (w : W) → OnGot (if_some s (writes s (Some id)) o p w) (λ now. row_named s.change.table other now.tables ≡ row_named s.change.table other p.tables)
  writes_keeps id other apart None p w = refl
  writes_keeps id other apart (Some row) p w =
      settled_got (written s.objects s.change.table (Some id) row p.tables) w (λ tables w. told s row (progress tables p.returned) w) (λ now. row_named s.change.table other now.tables ≡ row_named s.change.table other p.tables)
      (if_ok_then (written s.objects s.change.table (Some id) row p.tables) (λ (now : List Named). row_named s.change.table other now ≡ row_named s.change.table other p.tables)
      (λ (now : List Named). (w : W) → OnGot (told s row (progress now p.returned) w) (λ now. row_named s.change.table other now.tables ≡ row_named s.change.table other p.tables))
      (λ now is w. told_keeps row (progress now p.returned) w (λ now. row_named s.change.table other now ≡ row_named s.change.table other p.tables) is)
      (written_stays s.objects s.change.table id other apart row p.tables))

  takes_keeps : (id other : ℕ) → nat_eq other id ≡ false → (o : Option Row) (p : Progress) (w : W) → OnGot (if_some s (takes s id) o p w) (λ now. row_named s.change.table other now.tables ≡ row_named s.change.table other p.tables)
  takes_keeps id other apart None p w = refl
  takes_keeps id other apart (Some shown) p w = named_beside s.change.table other (removed id) (λ c. removed_beside id other apart c.rows) p.tables

  updates_keeps : (columns : List ℕ) (list : List RExpr) (condition : Option RExpr) → KeepsOthers (updates s columns list condition)
  updates_keeps columns list condition id other apart p w =
      then_got (at_row s (set_if s columns list condition) id p.tables w) (λ row w. if_some s (writes s (Some id)) row p w) (λ now. row_named s.change.table other now.tables ≡ row_named s.change.table other p.tables)
      (λ row w. writes_keeps id other apart row p w)

  deletes_keeps : (condition : Option RExpr) → KeepsOthers (deletes s condition)
  deletes_keeps condition id other apart p w =
      then_got (at_row s (shown_if s condition) id p.tables w) (λ shown w. if_some s (takes s id) shown p w) (λ now. row_named s.change.table other now.tables ≡ row_named s.change.table other p.tables)
      (λ shown w. takes_keeps id other apart shown p w)

  -- ---- a row that is turned down is passed over

  abbrev IsTurnedDown : Option RExpr → Row → Type 0
  IsTurnedDown condition row = (w : W) → product.passes (option_map (value s.calls s.inner) condition) (behind s row) w ≡ got false w

  abbrev PassesOver : Option RExpr → (ℕ → Progress → W → Reading W Progress) → Type 0
  PassesOver condition does = (id : ℕ) (row : Row) (p : Progress) (w : W) → row_named s.change.table id p.tables ≡ Some row → IsTurnedDown condition row → does id p w ≡ got p w

  set_none : (columns : List ℕ) (list : List RExpr) (condition : Option RExpr) (row : Row) (w : W) → IsTurnedDown condition row → set_if s columns list condition row w ≡ got None w
  set_none columns list condition row w down =
      ap (λ (r : Reading W Bool). then_read {A = Option Row} {B = Option Row} (then_read {B = Option Row} r (λ b w. values_if s b list (behind s row) w)) (λ vs w. got (option_map (λ vs. assigned columns vs row) vs) w)) (down w)

  shown_none : (condition : Option RExpr) (row : Row) (w : W) → IsTurnedDown condition row → shown_if s condition row w ≡ got None w
  shown_none condition row w down =
      ap (λ (r : Reading W Bool). then_read {B = Option Row} r (λ b w. values_if s b s.change.returning (behind s row) w)) (down w)

  updates_over : (columns : List ℕ) (list : List RExpr) (condition : Option RExpr) → PassesOver condition (updates s columns list condition)
  updates_over columns list condition id row p w there down =
      ap (λ (r : Reading W (Option Row)). then_read {B = Progress} r (λ row w. if_some s (writes s (Some id)) row p w))
      (row_there s (set_if s columns list condition) id p.tables row w there ∙ set_none columns list condition row w down)

  deletes_over : (condition : Option RExpr) → PassesOver condition (deletes s condition)
  deletes_over condition id row p w there down =
      ap (λ (r : Reading W (Option Row)). then_read {B = Progress} r (λ shown w. if_some s (takes s id) shown p w))
      (row_there s (shown_if s condition) id p.tables row w there ∙ shown_none condition row w down)

  -- ---- the ids that are left

  module _
      (x : RExpr) (does : ℕ → Progress → W → Reading W Progress) (keeps : KeepsOthers does) (over : PassesOver (Some x) does)
      (ts : List Named) (found : Option ℕ) (by : IsFound s.change.table x s.around ts found)
    where
      abbrev all : List (ℕ × Row)
      all = by.content.rows

      abbrev at_start : Progress → ℕ → Type 0
      at_start p id = row_named s.change.table id p.tables ≡ row_at id all

      other_down : (id : ℕ) (row : Row) → row_at id all ≡ Some row → holds by.table row ≡ true → (found ≡ Some id → ⊥) → IsTurnedDown (Some x) row
      other_down id row there rules other w = down s.calls s.inner by id row there rules other w

      skipped : (id : ℕ) (row : Row) → row_at id all ≡ Some row → holds by.table row ≡ true → (found ≡ Some id → ⊥) → (p : Progress) (w : W) → at_start p id → does id p w ≡ got p w
      skipped id row there rules other p w same = over id row p w (same ∙ there) (other_down id row there rules other)

      abbrev AreLast : ℕ → List (ℕ × Row) → Type 0
      AreLast low rows = (id : ℕ) → low ≤ id → row_at id rows ≡ row_at id all

      abbrev ids_of : List (ℕ × Row) → List ℕ
      ids_of rows = map (λ (entry : ℕ × Row). entry.0) rows

      -- where the one that was found isn't among them
      rest_skipped : (low : ℕ) (rows : List (ℕ × Row)) (high : ℕ) → AreRows by.table low rows high → AreLast low rows → ((n : ℕ) → found ≡ Some n → n < low) → (p : Progress) (w : W) → ((id : ℕ) → low ≤ id → at_start p id)
          → in_turn does (ids_of rows) p w ≡ got p w
      rest_skipped low [] high are last below p w same = refl
      rest_skipped low (row ∷ rows) high are last below p w same =
          let from = are.0 in
          ap (λ (r : Reading W Progress). then_read {B = Progress} r (λ p w. in_turn does (ids_of rows) p w))
          (skipped row.0 row.1 (head_there all low row rows from last) are.1 (λ e. (let less = below row.0 e in absurd (omega (arith, less, from)))) p w (same row.0 from))
          ∙ rest_skipped (row.0 + 1) rows high are.2 (others_last all low row rows from last) (λ n e. (let less = below n e in omega (arith, less, from))) p w (λ id le. same id (omega (arith, le, from)))

      -- where it is
      one_left : (n : ℕ) → found ≡ Some n → (low : ℕ) (rows : List (ℕ × Row)) (high : ℕ) → AreRows by.table low rows high → AreLast low rows → (there : Row) → row_at n rows ≡ Some there → (p : Progress) (w : W) → ((id : ℕ) → at_start p id)
          → in_turn does (ids_of rows) p w ≡ in_turn does (n ∷ []) p w
      one_left n is low [] high are last there has p w same = absurd (none_some there has)
      one_left n is low (row ∷ rows) high are last there has p w same =
          let from = are.0 in
          (elim (nat_eq n row.0) as (λ (b : Bool). nat_eq n row.0 ≡ b → cond b (Some row.1) (row_at n rows) ≡ Some there → in_turn does (ids_of (row ∷ rows)) p w ≡ in_turn does (n ∷ []) p w) [
            | true ↦ λ e h.
                let own : n ≡ row.0 = same_number n row.0 e in
                then_alike (does row.0 p w) (λ p w. in_turn does (ids_of rows) p w) (λ p w. got p w) (λ now. (other : ℕ) → nat_eq other row.0 ≡ false → row_named s.change.table other now.tables ≡ row_named s.change.table other p.tables)
                (all_keep row.0 p w)
                (λ now w stays. rest_skipped (row.0 + 1) rows high are.2 (others_last all low row rows from last) (λ m e. (let o : m ≡ n = some_is m n (sym e ∙ is) in omega (arith, o, own))) now w
                (λ id le. stays id (other_number id row.0 (λ e. omega (arith, e, le))) ∙ same id))
                ∙ ap (λ (m : ℕ). in_turn does (m ∷ []) p w) (sym own)
            | false ↦ λ e h.
                ap (λ (r : Reading W Progress). then_read {B = Progress} r (λ p w. in_turn does (ids_of rows) p w))
                (skipped row.0 row.1 (head_there all low row rows from last) are.1 (λ o. true_false (sym (equal_number n row.0 (some_is n row.0 (sym is ∙ o))) ∙ e)) p w (same row.0))
                ∙ one_left n is (row.0 + 1) rows high are.2 (others_last all low row rows from last) there h p w same
          ]) refl has
        where
          got_all : (id : ℕ) (p : Progress) (r : Reading W Progress) → ((other : ℕ) → nat_eq other id ≡ false → OnGot r (λ now. row_named s.change.table other now.tables ≡ row_named s.change.table other p.tables))
              → OnGot r (λ now. (other : ℕ) → nat_eq other id ≡ false → row_named s.change.table other now.tables ≡ row_named s.change.table other p.tables)
          got_all id p (got now w) so = so
          got_all id p (fails state w) so = tt

          all_keep : (id : ℕ) (p : Progress) (w : W) → OnGot (does id p w) (λ now. (other : ℕ) → nat_eq other id ≡ false → row_named s.change.table other now.tables ≡ row_named s.change.table other p.tables)
          all_keep id p w = got_all id p (does id p w) (λ other apart. keeps id other apart p w)

      -- all rows or the one that was found
      left_alike : (w : W) → in_turn does (ids s.change.table ts) (progress ts []) w ≡ in_turn does (listed found) (progress ts []) w
      left_alike w =
          ap (λ (o : Option Content). in_turn does (ids_of (tables.rows_of o)) (progress ts []) w) by.is ∙ by_found found refl
        where
          start : (id : ℕ) → at_start (progress ts []) id
          start id = ap (λ (o : Option Content). row_at id (tables.rows_of o)) by.is

          by_found : (o : Option ℕ) → found ≡ o → in_turn does (ids_of all) (progress ts []) w ≡ in_turn does (listed o) (progress ts []) w
          by_found None is = rest_skipped 1 all by.content.next by.sound.rows (λ id le. refl) (λ n e. absurd (none_some n (sym is ∙ e))) (progress ts []) w (λ id le. start id)
          by_found (Some n) is =
              let has = chained (key_of by.only.by.columns) (row_at n all) by.only.by.parts ((by.only.by.only n).0 is) in
              one_left n is 1 all by.content.next by.sound.rows (λ id le. refl) has.0 has.1 (progress ts []) w start

-- ---- commands

module _ {W : Type 0} (s : Setting W) (ts : List Named) (made : List ℕ) (w : W) where
  few_or_all : (condition : Option RExpr) (does : ℕ → Progress → W → Reading W Progress) → KeepsOthers s does → PassesOver s condition does → AreEnough s.change.table condition s.around ts made
      → in_turn does (ids s.change.table ts) (progress ts []) w ≡ in_turn does made (progress ts []) w
  few_or_all condition does keeps over (inl is) = ap (λ (list : List ℕ). in_turn does list (progress ts []) w) (sym is)
  few_or_all None does keeps over (inr few) = absurd few.by
  few_or_all (Some x) does keeps over (inr few) =
      left_alike s x does keeps over ts few.found few.by w
      ∙ ap (λ (list : List ℕ). in_turn does list (progress ts []) w) (sym few.few)

  -- an UPDATE, and a DELETE, of these rows is that of all rows
  pub updates_enough : (columns : List ℕ) (list : List RExpr) (condition : Option RExpr) → AreEnough s.change.table condition s.around ts made
      → in_turn (updates s columns list condition) (ids s.change.table ts) (progress ts []) w ≡ in_turn (updates s columns list condition) made (progress ts []) w
  updates_enough columns list condition enough = few_or_all condition (updates s columns list condition) (updates_keeps s columns list condition) (updates_over s columns list condition) enough

  pub deletes_enough : (condition : Option RExpr) → AreEnough s.change.table condition s.around ts made
      → in_turn (deletes s condition) (ids s.change.table ts) (progress ts []) w ≡ in_turn (deletes s condition) made (progress ts []) w
  deletes_enough condition enough = few_or_all condition (deletes s condition) (deletes_keeps s condition) (deletes_over s condition) enough
