-- Changes that keep a table sound.
use Rattle.std.proofs.Common.{◌≡◌, ◌<◌, ◌≤◌, ◌^◌, ◌||◌, ℕ, length, nat_eq, nat_lt, not, Bool, true, false, Option, Some, refl, sym, ◌∙◌, ap, subst, arith}
use Rattle.std.specs.Prelude.{is_some, option_and_then}
use Rattle.std.specs.BTreeMap.{insert_entry}
use Rattle.std.specs.Map.{remove_entry}
use Rattle.std.specs.Ordering.{nat_cmp}
use Rattle.pl_catalog.specs.declared.object.TableDef.{TableDef}
use Rattle.pl_journal.specs.Sound.{AreApart, IsSoundTable}
use Rattle.pl_journal.specs.Writing.{is_taken_beside}
use Rattle.pl_journal.proofs.Rows.{higher, put_count, put_found, put_others, put_rows, remove_count, remove_rows, removed_found, same_count}
use Rattle.pl_journal.proofs.Taken.{apart, away, free, taken, there_is}
use Rattle.pl_journal.proofs.Truths.{below, none_some, other_number, own_number, same_number, some_is, true_false}
use Rattle.pl_rules.specs.Rules.{holds}
use Rattle.pl_tables.specs.Rows.{Content, Holds, has_room, no_rows, put_at, raised, removed, row_at}
use Rattle.pl_undo.specs.Database.{keys_in}
use Rattle.pl_unique.specs.Key.{key_of}
use Rattle.pl_value.specs.Frames.{Row}

-- no row has a key of another
abbrev KeysDiffer : Content → Type 0
KeysDiffer c = (id : ℕ) (row : Row) (other : ℕ) → row_at id c.rows ≡ Some row → (other ≡ id → ⊥) → Holds row c other → ⊥

differ : (c : Content) → AreApart c → KeysDiffer c
differ c are id row other there beside has =
    let e : is_taken_beside id row c ≡ true = taken row c (λ (n : ℕ). not (nat_eq n id)) other (away row id other beside) has in
    true_false (sym e ∙ are id row there)

are_apart : (c : Content) → KeysDiffer c → AreApart c
are_apart c keys id row there = free row c (λ (n : ℕ). not (nat_eq n id)) (λ other so has. keys id row other there (apart row id other so) has)

-- a new table
pub new_sound : (table : TableDef) → IsSoundTable table (no_rows (keys_in table.rules))
new_sound table = record { keys = refl; rows = omega arith; few = omega arith; next = omega arith; apart = λ id row there. absurd (none_some row there) }

module _ (table : TableDef) (c : Content) (sound : IsSoundTable table c) where
  -- a row is removed
  module _ (id : ℕ) where
    held_before : (row : Row) (other : ℕ) → Holds row (removed id c) other → Holds row c other
    held_before row other has =
        let found = there_is has.columns (row_at other (remove_entry (nat_eq id) c.rows)) has.parts has.held in
        let same : row_at other c.rows ≡ Some found.0 = removed_found table id other 1 c.rows c.next found.0 sound.rows found.1 in
        record { number = has.number; columns = has.columns; parts = has.parts; is = has.is; asked = has.asked; held = ap (λ (o : Option Row). option_and_then (key_of has.columns) o) (same ∙ sym found.1) ∙ has.held }

    pub removed_sound : IsSoundTable table (removed id c)
    removed_sound = record {
      keys = sound.keys;
      rows = remove_rows table id 1 c.rows c.next sound.rows;
      few = (let less = remove_count id c.rows in let most = sound.few in omega (arith, less, most));
      next = sound.next;
      apart = are_apart (removed id c) (λ key row other there beside has. differ c sound.apart key row other (removed_found table id key 1 c.rows c.next row sound.rows there) beside (held_before row other has));
    }

  -- the next id is raised
  pub raised_sound : (next : ℕ) → c.next ≤ next → next ≤ 2 ^ 63 → IsSoundTable table (raised next c)
  raised_sound next from top = record { keys = sound.keys; rows = higher table 1 c.rows c.next next from sound.rows; few = sound.few; next = top; apart = sound.apart }

  -- a row is put
  module _ (id : ℕ) (row : Row) where
    pub put_few : has_room id c ≡ true → length (insert_entry nat_cmp c.rows id row) ≤ 1000000
    put_few room =
        (elim (is_some (row_at id c.rows)) as (λ (b : Bool). is_some (row_at id c.rows) ≡ b → (b || nat_lt (length c.rows) 1000000) ≡ true → length (insert_entry nat_cmp c.rows id row) ≤ 1000000) [
          | true ↦ λ e h. let same = same_count table id row 1 c.rows c.next sound.rows e in let most = sound.few in omega (arith, same, most)
          | false ↦ λ e h. let more = put_count id row c.rows in let less = below (length c.rows) 1000000 h in omega (arith, more, less)
        ]) refl room

    -- as before but for the row itself
    as_before : (other : ℕ) → (other ≡ id → ⊥) → row_at other (insert_entry nat_cmp c.rows id row) ≡ row_at other c.rows
    as_before other beside = put_others id other row c.rows (other_number other id beside)

    held_as_before : (r : Row) (other : ℕ) → (other ≡ id → ⊥) → Holds r (put_at id row c) other → Holds r c other
    held_as_before r other beside has =
        record { number = has.number; columns = has.columns; parts = has.parts; is = has.is; asked = has.asked; held = ap (λ (o : Option Row). option_and_then (key_of has.columns) o) (sym (as_before other beside)) ∙ has.held }

    -- the row itself has a key of another one
    held_by_it : (r : Row) (key : ℕ) → Holds r (put_at id row c) id → row_at key c.rows ≡ Some r → Holds row c key
    held_by_it r key has there =
        record {
          number = has.number;
          columns = has.columns;
          parts = has.parts;
          is = has.is;
          asked = ap (λ (o : Option Row). option_and_then (key_of has.columns) o) (sym (put_found id row c.rows)) ∙ has.held;
          held = ap (λ (o : Option Row). option_and_then (key_of has.columns) o) there ∙ has.asked;
        }

    module _ (none : (other : ℕ) → (other ≡ id → ⊥) → Holds row c other → ⊥) where
      beside_it : (key : ℕ) (r : Row) (other : ℕ) → (key ≡ id → ⊥) → row_at key c.rows ≡ Some r → (other ≡ key → ⊥) → Holds r (put_at id row c) other → ⊥
      beside_it key r other apart_from there beside has =
          (elim (nat_eq other id) as (λ (b : Bool). nat_eq other id ≡ b → ⊥) [
            | true ↦ λ e. none key apart_from (held_by_it r key (subst (λ (n : ℕ). Holds r (put_at id row c) n) (same_number other id e) has) there)
            | false ↦ λ e. differ c sound.apart key r other there beside (held_as_before r other (λ is. true_false (sym (ap (λ (n : ℕ). nat_eq n id) is ∙ own_number id) ∙ e)) has)
          ]) refl

      put_differ : KeysDiffer (put_at id row c)
      put_differ key r other there beside has =
          (elim (nat_eq key id) as (λ (b : Bool). nat_eq key id ≡ b → ⊥) [
            | true ↦ λ e.
                let same : key ≡ id = same_number key id e in
                let own : row ≡ r = some_is row r (sym (put_found id row c.rows) ∙ (ap (λ (n : ℕ). row_at n (insert_entry nat_cmp c.rows id row)) (sym same) ∙ there)) in
                let apart_from : (other ≡ id → ⊥) = (λ is. beside (is ∙ sym same)) in
                none other apart_from (subst (λ (x : Row). Holds x c other) (sym own) (held_as_before r other apart_from has))
            | false ↦ λ e.
                let apart_from : (key ≡ id → ⊥) = (λ is. true_false (sym (ap (λ (n : ℕ). nat_eq n id) is ∙ own_number id) ∙ e)) in
                beside_it key r other apart_from (sym (as_before key apart_from) ∙ there) beside has
          ]) refl

      pub put_sound : 0 < id → id < 2 ^ 63 → holds table row ≡ true → has_room id c ≡ true → IsSoundTable table (put_at id row c)
      put_sound low high fit room = record {
        keys = sound.keys;
        rows = put_rows table id row 1 c.rows c.next (omega (arith, low)) fit sound.rows;
        few = put_few room;
        next = (let top = sound.next in omega (arith, top, high));
        apart = are_apart (put_at id row c) put_differ;
      }

    -- where the tests pass
    pub none_other : is_taken_beside id row c ≡ false → (other : ℕ) → (other ≡ id → ⊥) → Holds row c other → ⊥
    none_other is other beside has =
        let e : is_taken_beside id row c ≡ true = taken row c (λ (n : ℕ). not (nat_eq n id)) other (away row id other beside) has in
        true_false (sym e ∙ is)
