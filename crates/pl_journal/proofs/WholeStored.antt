-- The operations of a whole database have a spelling.
use Rattle.std.proofs.Common.{◌≡◌, ◌<◌, ◌≤◌, ◌^◌, ◌&&◌, ◌++◌, ◌∙◌, ℕ, ◌+◌, List, [], ◌∷◌, length, nat_lt, true, Option, Some, None, refl, sym, ap, arith, append_assoc}
use Rattle.std.specs.List.{list_all}
use Rattle.pl_base.specs.declared.operation.Op.TheVariants.{Define, Next}
use Rattle.pl_catalog.specs.Objects.{object_called, table_named, tables_in, which_of}
use Rattle.pl_catalog.specs.declared.object.Column.{Column}
use Rattle.pl_catalog.specs.declared.object.Object.{Object}
use Rattle.pl_catalog.specs.declared.object.Object.TheVariants as object
use Rattle.pl_catalog.specs.declared.object.TableDef.{TableDef}
use Rattle.pl_codec.specs.Spelling.{are_stored, is_define_text, is_stored_value, is_table_name}
use Rattle.pl_define.specs.Definition.{text_of}
use Rattle.pl_journal.specs.Sound.{AreMade, AreRows, IsMade, IsSound, IsSoundTable}
use Rattle.pl_journal.specs.Whole.{content_ops, held_ops, row_ops, whole, whole_of}
use Rattle.pl_journal.proofs.Rows.{rows_end, Rows}
use Rattle.pl_journal.proofs.Stored.{fits_stored}
use Rattle.pl_journal.proofs.Truths.{and_true, first_true, is_below, second_true}
use Rattle.pl_journal.proofs.WholeLeads.{table_last}
use Rattle.pl_journal.proofs.WholeParts.{stored-append}
use Rattle.pl_define.proofs.of_pl_reading.Definitions.{found}
use Rattle.pl_rules.specs.Rules.{all_pass, fits, none_lacks}
use Rattle.pl_tables.specs.Named.{content_named}
use Rattle.pl_tables.specs.Rows.{Content}
use Rattle.pl_undo.specs.Database.{Database}
use Rattle.pl_value.specs.Frames.{Row}

-- ---- a row

pub row_stored : (columns : List Column) (row : Row) → fits columns row ≡ true → nat_lt (length columns) 256 ≡ true → (nat_lt (length row) 256 ≡ true) × (list_all is_stored_value row ≡ true)
row_stored columns row is few =
    let values = fits_stored columns row is in
    (ap (λ (n : ℕ). nat_lt n 256) values.0 ∙ few, values.1)

-- ---- a table

module _ (table : TableDef) (is_name : is_table_name table.name ≡ true) (few : nat_lt (length table.columns) 256 ≡ true) where
  rows_stored : (low : ℕ) (rows : Rows) (high : ℕ) → 0 < low → high ≤ 2 ^ 63 → AreRows table low rows high → are_stored (row_ops table.name rows) ≡ true
  rows_stored low [] high some small are = refl
  rows_stored low (row ∷ rows) high some small are =
      (λ i. (is_name i && (first i && last i) && fine.0 i && fine.1 i) && rows_stored (row.0 + 1) rows high (omega arith) small are.2 i)
    where
      first : nat_lt 0 row.0 ≡ true
      first = is_below 0 row.0 (omega (arith, some, are.0))

      last : nat_lt row.0 (2 ^ 63) ≡ true
      last = let end = rows_end table (row.0 + 1) rows high are.2 in is_below row.0 (2 ^ 63) (omega (arith, end, small))

      fine : (nat_lt (length row.1) 256 ≡ true) × (list_all is_stored_value row.1 ≡ true)
      fine = row_stored table.columns row.1 (first_true (fits table.columns row.1) (none_lacks table.columns row.1) (first_true (fits table.columns row.1 && none_lacks table.columns row.1) (all_pass table.rules row.1) are.1)) few

  held_stored : (c : Content) → IsSoundTable table c → are_stored (content_ops table.name (Some c)) ≡ true
  held_stored c sound =
      stored-append (row_ops table.name c.rows) (Next table.name c.next ∷ []) (rows_stored 1 c.rows c.next (omega arith) sound.next sound.rows) (and_true (is_table_name table.name) true is_name refl)

-- ---- all of them

text_fits : (o : Object) → IsMade o → is_define_text (text_of o) ≡ true
text_fits o made = (found (text_of o) made.definition made.read).fits

module _
    (d : Database)
    (sound : (name : List ℕ) (table : TableDef) (c : Content) → table_named name (tables_in d.objects) ≡ Some table → content_named name d.tables ≡ Some c → IsSoundTable table c)
  where
    -- what an object of the catalogue holds
    one_stored : (t : TableDef) → IsMade (object.Table t) → table_named t.name (tables_in d.objects) ≡ Some t → are_stored (held_ops (object.Table t) d.tables) ≡ true
    one_stored t made there =
        (elim (content_named t.name d.tables) as (λ (o : Option Content). content_named t.name d.tables ≡ o → are_stored (content_ops t.name o) ≡ true) [
          | None ↦ λ e. refl
          | Some c ↦ λ e. held_stored t (first_true (is_table_name t.name) (nat_lt (length t.columns) 256) made.stored) (second_true (is_table_name t.name) (nat_lt (length t.columns) 256) made.stored) c (sound t.name t c there e)
        ]) refl

    each_stored : (os more : List Object) → os ++ more ≡ d.objects → AreMade os more → are_stored (whole_of more d.tables) ≡ true
    each_stored os [] all made = refl
    each_stored os (o ∷ more) all made =
        stored-append (Define (text_of o) ∷ held_ops o d.tables) (whole_of more d.tables) (and_true (is_define_text (text_of o)) (are_stored (held_ops o d.tables)) (text_fits o made.0) (held o all made.0 made.1))
        (each_stored (os ++ o ∷ []) more (append_assoc os (o ∷ []) more ∙ all) made.2)
      where
        held : (o : Object) → os ++ o ∷ more ≡ d.objects → IsMade o → object_called (which_of o) os ≡ None → are_stored (held_ops o d.tables) ≡ true
        held (object.Table t) all made free = one_stored t made (ap (λ (l : List Object). table_named t.name (tables_in l)) (sym all) ∙ table_last t os more free)
        held (object.Routine r) all made free = refl
        held (object.Trigger t) all made free = refl

pub is_stored : (d : Database) → IsSound d → are_stored (whole d) ≡ true
is_stored d sound = each_stored d sound.tables [] d.objects refl sound.objects
