-- The operations of what a table holds lead from the table without rows to it.
use Rattle.std.proofs.Common.{◌≡◌, ◌<◌, ◌≤◌, ◌^◌, ◌&&◌, ◌||◌, not, ℕ, ◌+◌, max, List, [], ◌∷◌, ◌++◌, length, cond, nat_eq, nat_lt, nat_le, is_some, Bool, true, false, Option, Some, None, refl, sym, ◌∙◌, ap, arith, append_assoc, length-append}
use Rattle.std.specs.Prelude.{option_map, option_and_then}
use Rattle.std.specs.List.{list_any}
use Rattle.std.proofs.lemmas.List.{append-nil}
use Rattle.std.proofs.lemmas.Bool.Decides.{nat_tests}
use Rattle.std.specs.Cmp.Lexicographic.{bytes_decides, pointwise}
use Rattle.pl_base.specs.declared.operation.Op.TheVariants.{Next, Put}
use Rattle.pl_catalog.specs.declared.object.Object.{Object}
use Rattle.pl_catalog.specs.declared.object.TableDef.{TableDef}
use Rattle.pl_catalog.specs.Objects.{table_named, tables_in}
use Rattle.pl_journal.specs.Operation.{apply, apply_all, put, put_in, raise_from}
use Rattle.pl_journal.specs.Sound.{AreRows, IsSoundTable}
use Rattle.pl_journal.specs.Whole.{row_ops}
use Rattle.pl_journal.specs.Writing.{is_same_key, is_taken_beside}
use Rattle.pl_journal.proofs.Payload.{apply_all-append}
use Rattle.pl_journal.proofs.Rows.{put_last, rows_end, Rows}
use Rattle.pl_journal.proofs.Truths.{false_true, is_below, none_some, or_false, or_true, other_number, own_number, true_false}
use Rattle.pl_rules.specs.Rules.{holds}
use Rattle.pl_tables.specs.Named.{content_named, named, on_table, Named}
use Rattle.pl_tables.specs.Rows.{Content, has_room, no_rows, put_at, raised, row_at}
use Rattle.pl_undo.specs.Database.{Database, database, keys_in, on_rows}
use Rattle.pl_unique.specs.Key.{key_of}
use Rattle.pl_unique.specs.declared.key.Part.{Part}
use Rattle.pl_value.specs.Frames.{Row}

-- the next id that rows give by themselves: above the last one's, and from this one on
abbrev above : (low : ℕ) → Rows → ℕ
above low [] = low
above low (row ∷ rows) = above (row.0 + 1) rows

-- ---- the last of some tables

same_name : (name : List ℕ) → pointwise nat_eq name name ≡ true
same_name name = (bytes_decides name name).1 refl

pub content_last : (name : List ℕ) (ts rest : List Named) (c : Content) → content_named name ts ≡ None → content_named name (ts ++ named name c ∷ rest) ≡ Some c
content_last name [] rest c none = ap (λ (b : Bool). cond b (Some c) (content_named name rest)) (same_name name)
content_last name (t ∷ ts) rest c none =
    (elim (pointwise nat_eq t.name name) as (λ (b : Bool). cond b (Some t.content) (content_named name ts) ≡ None → cond b (Some t.content) (content_named name (ts ++ named name c ∷ rest)) ≡ Some c) [
      | true ↦ λ h. absurd (let f : Some t.content ≡ None = h in cc)
      | false ↦ λ h. content_last name ts rest c h
    ]) none

on_last : (change : Content → Content) (name : List ℕ) (ts : List Named) (c : Content) → content_named name ts ≡ None → on_table name change (ts ++ named name c ∷ []) ≡ ts ++ named name (change c) ∷ []
on_last change name [] c none = ap (λ (b : Bool). cond b (named name (change c) ∷ []) (named name c ∷ [])) (same_name name)
on_last change name (t ∷ ts) c none =
    (elim (pointwise nat_eq t.name name) as (λ (b : Bool). cond b (Some t.content) (content_named name ts) ≡ None
    → cond b (named t.name (change t.content) ∷ (ts ++ named name c ∷ [])) (t ∷ on_table name change (ts ++ named name c ∷ [])) ≡ t ∷ (ts ++ named name (change c) ∷ [])) [
      | true ↦ λ h. absurd (let f : Some t.content ≡ None = h in cc)
      | false ↦ λ h. ap (λ (l : List Named). t ∷ l) (on_last change name ts c h)
    ]) none

-- ---- keys

abbrev content : ℕ → Rows → List (List ℕ) → Content
content next rows keys = record { next = next; rows = rows; keys = keys }

-- this row, if there is one, has a key of that one
abbrev has_key : Row → List (List ℕ) → Option Row → Bool
has_key row keys o = list_any (λ columns. is_same_key (key_of columns row) (option_and_then (key_of columns) o)) keys

none_same : (o : Option (List Part)) → is_same_key o None ≡ false
none_same None = refl
none_same (Some parts) = refl

no_key : (row : Row) (keys : List (List ℕ)) → has_key row keys None ≡ false
no_key row [] = refl
no_key row (columns ∷ keys) = ap (λ (b : Bool). b || has_key row keys None) (none_same (key_of columns row)) ∙ no_key row keys

still_there : (id : ℕ) (front more : Rows) (found : Row) → row_at id front ≡ Some found → row_at id (front ++ more) ≡ Some found
still_there id [] more found is = absurd (none_some found is)
still_there id (row ∷ front) more found is =
    (elim (nat_eq id row.0) as (λ (b : Bool). cond b (Some row.1) (row_at id front) ≡ Some found → cond b (Some row.1) (row_at id (front ++ more)) ≡ Some found) [
      | true ↦ λ h. h
      | false ↦ λ h. still_there id front more found h
    ]) is

-- a key that a front of the rows has is one that all have
key_of_all : (row : Row) (keys : List (List ℕ)) (id : ℕ) (front more : Rows) → has_key row keys (row_at id front) ≡ true → has_key row keys (row_at id (front ++ more)) ≡ true
key_of_all row keys id front more is =
    (elim (row_at id front) as (λ (o : Option Row). row_at id front ≡ o → has_key row keys o ≡ true → has_key row keys (row_at id (front ++ more)) ≡ true) [
      | None ↦ λ e h. absurd (false_true (sym (no_key row keys) ∙ h))
      | Some found ↦ λ e h. ap (has_key row keys) (still_there id front more found e) ∙ h
    ]) refl is

and_so : (a b c : Bool) → (b ≡ true → c ≡ true) → (a && b) ≡ true → (a && c) ≡ true
and_so true b c so is = so is
and_so false b c so is = is

none_in_front : {A : Type 0} (p q : A → Bool) → ((x : A) → p x ≡ true → q x ≡ true) → (front more : List A) → list_any q (front ++ more) ≡ false → list_any p front ≡ false
none_in_front p q so [] more none = refl
none_in_front p q so (x ∷ front) more none =
    (elim (p x) as (λ (b : Bool). p x ≡ b → (b || list_any p front) ≡ false) [
      | true ↦ λ e. absurd (true_false (sym (ap (λ (b : Bool). b || list_any q (front ++ more)) (so x e)) ∙ none))
      | false ↦ λ e. none_in_front p q so front more (or_false (q x) (list_any q (front ++ more)) none).1
    ]) refl

-- where no other row has a key of this one, none of a front has
free_in_front : (id : ℕ) (row : Row) (keys : List (List ℕ)) (front more : Rows) (next next' : ℕ)
    → is_taken_beside id row (content next (front ++ more) keys) ≡ false → is_taken_beside id row (content next' front keys) ≡ false
free_in_front id row keys front more next next' none =
    none_in_front
    (λ (other : ℕ × Row). not (nat_eq other.0 id) && has_key row keys (row_at other.0 front))
    (λ (other : ℕ × Row). not (nat_eq other.0 id) && has_key row keys (row_at other.0 (front ++ more)))
    (λ other is. and_so (not (nat_eq other.0 id)) (has_key row keys (row_at other.0 front)) (has_key row keys (row_at other.0 (front ++ more))) (key_of_all row keys other.0 front more) is)
    front more none

-- ---- rows

module _ (table : TableDef) where
  and_last : (id : ℕ) (new : Row) (low : ℕ) (rows : Rows) (high : ℕ) → high ≤ id → holds table new ≡ true → AreRows table low rows high → AreRows table low (rows ++ (id, new) ∷ []) (id + 1)
  and_last id new low [] high from fit are = (omega (arith, from, are), fit, omega arith)
  and_last id new low (row ∷ rows) high from fit are = (are.0, are.1, and_last id new (row.0 + 1) rows high from fit are.2)

  -- it is found by its id
  found_last : (id : ℕ) (new : Row) (low : ℕ) (rows more : Rows) (high : ℕ) → high ≤ id → AreRows table low rows high → row_at id (rows ++ (id, new) ∷ more) ≡ Some new
  found_last id new low [] more high from are = ap (λ (b : Bool). cond b (Some new) (row_at id more)) (own_number id)
  found_last id new low (row ∷ rows) more high from are =
      let end = rows_end table (row.0 + 1) rows high are.2 in
      ap (λ (b : Bool). cond b (Some row.1) (row_at id (rows ++ (id, new) ∷ more))) (other_number id row.0 (λ e. omega (arith, e, end, from)))
      ∙ found_last id new (row.0 + 1) rows more high from are.2

  above_high : (low : ℕ) (rows : Rows) (high : ℕ) → AreRows table low rows high → above low rows ≤ high
  above_high low [] high are = are
  above_high low (row ∷ rows) high are = above_high (row.0 + 1) rows high are.2

is_within : (n m : ℕ) → n ≤ m → nat_le n m ≡ true
is_within n m is = grind (arith, nat_tests, is)

module _
    (os : List Object) (ts : List Named) (table : TableDef) (c : Content)
    (there : table_named table.name (tables_in os) ≡ Some table) (none : content_named table.name ts ≡ None) (sound : IsSoundTable table c)
  where
    -- the table behind others, with these rows
    abbrev beside : Content → Database
    beside now = database os (ts ++ named table.name now ∷ [])

    abbrev with : ℕ → Rows → Content
    with next rows = content next rows c.keys

    changed : (change : Content → Content) (now : Content) → on_rows table.name change (beside now) ≡ beside (change now)
    changed change now = ap (λ (l : List Named). database os l) (on_last change table.name ts now none)

    put_one : (front : Rows) (low id : ℕ) (row : Row) → AreRows table 1 front low → low ≤ id → 0 < id → id < 2 ^ 63 → holds table row ≡ true → length front < 1000000
        → is_taken_beside id row (with low front) ≡ false → apply (Put table.name id row) (beside (with low front)) ≡ Some (beside (with (id + 1) (front ++ (id, row) ∷ [])))
    put_one front low id row are from some small fit few free =
        let id_low : nat_lt 0 id ≡ true = is_below 0 id some in
        let id_high : nat_lt id (2 ^ 63) ≡ true = is_below id (2 ^ 63) small in
        let room : has_room id (with low front) ≡ true = or_true (is_some (row_at id front)) (nat_lt (length front) 1000000) (is_below (length front) 1000000 few) in
        let above_all : max low (id + 1) ≡ id + 1 = omega (arith, from) in
        let put_in_last : put_at id row (with low front) ≡ with (id + 1) (front ++ (id, row) ∷ []) = λ i. with (above_all i) (put_last table id row 1 front low from are i) in
        (λ i. cond (id_low i && id_high i) (put table.name id row (beside (with low front))) None)
        ∙ ap (λ (o : Option TableDef). option_and_then (λ (t : TableDef). option_and_then (put_in t table.name id row (beside (with low front))) (content_named table.name (beside (with low front)).tables)) o) there
        ∙ ap (λ (o : Option Content). option_and_then (put_in table table.name id row (beside (with low front))) o) (content_last table.name ts [] (with low front) none)
        ∙ (λ i. cond (fit i && room i && not (free i)) (Some (on_rows table.name (put_at id row) (beside (with low front)))) None)
        ∙ ap (λ (d : Database). let o : Option Database = Some d in o) (changed (put_at id row) (with low front) ∙ ap beside put_in_last)

    put_each : (front rest : Rows) (low : ℕ) → front ++ rest ≡ c.rows → AreRows table 1 front low → AreRows table low rest c.next → 0 < low
        → apply_all (row_ops table.name rest) (beside (with low front)) ≡ Some (beside (with (above low rest) c.rows))
    put_each front [] low all are rest some = ap (λ (r : Rows). let o : Option Database = Some (beside (with low r)) in o) (sym (append-nil front) ∙ all)
    put_each front (row ∷ rest) low all are more some =
        ap (λ (o : Option Database). option_and_then (apply_all (row_ops table.name rest)) o)
        (put_one front low row.0 row.1 are more.0 (omega (arith, some, more.0)) small more.1 few free)
        ∙ put_each (front ++ row ∷ []) rest (row.0 + 1) (append_assoc front (row ∷ []) rest ∙ all) (and_last table row.0 row.1 1 front low more.0 more.1 are) more.2 (omega arith)
      where
        small : row.0 < 2 ^ 63
        small = let end = rows_end table (row.0 + 1) rest c.next more.2 in let n = sound.next in omega (arith, end, n)

        few : length front < 1000000
        few = let n = sound.few in let both = length-append front (row ∷ rest) in let same = ap length all in omega (arith, n, both, same)

        found : row_at row.0 c.rows ≡ Some row.1
        found = sym (ap (row_at row.0) all) ∙ found_last table row.0 row.1 1 front rest low more.0 are

        free : is_taken_beside row.0 row.1 (with low front) ≡ false
        free =
            free_in_front row.0 row.1 c.keys front (row ∷ rest) c.next low
            (ap (λ (r : Rows). is_taken_beside row.0 row.1 (with c.next r)) all ∙ sound.apart row.0 row.1 found)

    raise_last : apply_all (Next table.name c.next ∷ []) (beside (with (above 1 c.rows) c.rows)) ≡ Some (beside c)
    raise_last = ap (λ (o : Option Database). option_and_then (apply_all []) o) raised_last
      where
        raised_last : apply (Next table.name c.next) (beside (with (above 1 c.rows) c.rows)) ≡ Some (beside c)
        raised_last =
            let low : nat_le (above 1 c.rows) c.next ≡ true = is_within (above 1 c.rows) c.next (above_high table 1 c.rows c.next sound.rows) in
            let high : nat_le c.next (2 ^ 63) ≡ true = is_within c.next (2 ^ 63) sound.next in
            ap (λ (o : Option Content). option_and_then (raise_from table.name c.next (beside (with (above 1 c.rows) c.rows))) (option_map (λ (d : Content). d.next) o)) (content_last table.name ts [] (with (above 1 c.rows) c.rows) none)
            ∙ (λ i. cond (low i && high i) (Some (on_rows table.name (raised c.next) (beside (with (above 1 c.rows) c.rows)))) None)
            ∙ ap (λ (d : Database). let o : Option Database = Some d in o) (changed (raised c.next) (with (above 1 c.rows) c.rows))

    -- its rows, and its next id
    pub filled : apply_all (row_ops table.name c.rows ++ Next table.name c.next ∷ []) (beside (no_rows (keys_in table.rules))) ≡ Some (beside c)
    filled =
        ap (λ (keys : List (List ℕ)). apply_all (row_ops table.name c.rows ++ Next table.name c.next ∷ []) (beside (no_rows keys))) (sym sound.keys)
        ∙ apply_all-append (row_ops table.name c.rows) (Next table.name c.next ∷ []) (beside (with 1 [])) (beside (with (above 1 c.rows) c.rows)) (put_each [] c.rows 1 refl (omega arith) sound.rows (omega arith))
        ∙ raise_last
