-- Rows that keep their rules have a spelling.
use Rattle.std.proofs.Common.{◌≡◌, ◌<◌, ◌≤◌, ◌^◌, ◌&&◌, ℕ, suc, List, [], ◌∷◌, length, nat_le, nat_lt, Bool, true, false, Option, Some, None, refl, sym, ◌∙◌, ap, subst, arith}
use Rattle.std.specs.Prelude.{option_map, IsSome}
use Rattle.std.specs.List.{list_all}
use Rattle.std.specs.Option.{is_none}
use Rattle.pl_base.specs.declared.types.Ty.{Ty}
use Rattle.pl_base.specs.declared.types.Ty.TheVariants as ty
use Rattle.pl_base.specs.declared.value.Value.{Value, Row'}
use Rattle.pl_base.specs.declared.value.Value.TheVariants.{Null, Int, Big, Text, Bool as Truth}
use Rattle.pl_rules.specs.pl_calc.Casts.{text_limit}
use Rattle.pl_catalog.specs.Objects.{table_named, tables_in}
use Rattle.pl_catalog.specs.declared.object.Column.{Column}
use Rattle.pl_catalog.specs.declared.object.Object.TheVariants as object
use Rattle.pl_catalog.specs.declared.object.TableDef.{TableDef}
use Rattle.pl_codec.specs.Spelling.{is_define_text, is_row_id, is_stored_value, is_table_name, is_text}
use Rattle.pl_journal.specs.Definitions.{is_stored_object}
use Rattle.pl_journal.specs.Sound.{IsSound, IsSoundTable}
use Rattle.pl_journal.specs.Steps.{free_id, id_if, refusal_by}
use Rattle.pl_journal.specs.Writing.{state_of}
use Rattle.pl_journal.proofs.Objects.{made_table, table_of_content}
use Rattle.pl_journal.proofs.Rows.{rows_end, within}
use Rattle.pl_journal.proofs.Truths.{and_true, below, false_true, first_true, held, is_above, is_below, none_some, or_false, second_true, some_is, upto}
use Rattle.pl_rules.proofs.Holding.{all_hold}
use Rattle.pl_rules.specs.Rules.{all_pass, first_failure, fits, holds, is_of, none_lacks}
use Rattle.pl_rules.specs.declared.rules.RuleFail.{RuleFail}
use Rattle.pl_tables.specs.Named.{content_named, row_named, rows_of}
use Rattle.pl_tables.specs.Rows.{Content, is_full, row_at}
use Rattle.pl_undo.specs.Database.{Database}
use Rattle.pl_value.specs.Frames.{Row}

-- ---- values of their types

text_stored : (text : List ℕ) → (is_text text && nat_le (length text) text_limit) ≡ true → is_define_text text ≡ true
text_stored text is =
    let few : length text ≤ text_limit = upto (length text) text_limit (second_true (is_text text) (nat_le (length text) text_limit) is) in
    and_true (is_text text) (nat_lt (length text) (2 ^ 32)) (first_true (is_text text) (nat_le (length text) text_limit) is) (is_below (length text) (2 ^ 32) (omega (arith, few)))

value_stored : (t : Ty) (v : Value) → is_of t v ≡ true → is_stored_value v ≡ true
value_stored t Null is = refl
value_stored t (Int number) is = refl
value_stored t (Big number) is = refl
value_stored t (Truth truth) is = refl
value_stored ty.Text (Text text) is = text_stored text is
value_stored t (Text text) is = absurd (false_true is)
value_stored t (Row' shape fields) is = absurd (false_true is)

pub fits_stored : (cs : List Column) (row : Row) → fits cs row ≡ true → (length row ≡ length cs) × (list_all is_stored_value row ≡ true)
fits_stored [] [] is = (refl, refl)
fits_stored [] (v ∷ row) is = absurd (false_true is)
fits_stored (c ∷ cs) [] is = absurd (false_true is)
fits_stored (c ∷ cs) (v ∷ row) is =
    let rest = fits_stored cs row (second_true (is_of c.ty v) (fits cs row) is) in
    (ap (λ (n : ℕ). suc n) rest.0, and_true (is_stored_value v) (list_all is_stored_value row) (value_stored c.ty v (first_true (is_of c.ty v) (fits cs row) is)) rest.1)

-- ---- rows that their table lets pass

unfailed : (f : Option RuleFail) → option_map state_of f ≡ None → f ≡ None
unfailed None is = refl
unfailed (Some fail) is = absurd (none_some (state_of fail) (sym is))

pub passed : (o : Option TableDef) (row : Row) → refusal_by o row ≡ None → (t : TableDef) × (o ≡ Some t) × (first_failure t row ≡ None)
passed None row is = absurd (none_some _ (sym is))
passed (Some t) row is = (t, refl, unfailed (first_failure t row) is)

pub holds_of : (t : TableDef) (row : Row) → first_failure t row ≡ None → holds t row ≡ true
holds_of t row is = all_hold t row ∙ ap (λ (f : Option RuleFail). is_none f) is

-- the table's name, and how many columns it has
pub name_stored : (d : Database) → IsSound d → (name : List ℕ) (t : TableDef) → table_named name (tables_in d.objects) ≡ Some t → (is_table_name name ≡ true) × (length t.columns < 256)
name_stored d sound name t is =
    let made = made_table name [] d.objects t sound.objects is in
    let both : is_stored_object (object.Table t) ≡ true = made.0.stored in (
      ap (λ (n : List ℕ). is_table_name n) (sym made.1) ∙ first_true (is_table_name t.name) (nat_lt (length t.columns) 256) both,
      below (length t.columns) 256 (second_true (is_table_name t.name) (nat_lt (length t.columns) 256) both),
    )

-- what spelling a row asks
pub record IsSpelled (name : List ℕ) (row : Row) : Type 0 where
  pub named : is_table_name name ≡ true
  pub counted : length row < 256
  pub stored : list_all is_stored_value row ≡ true

pub row_spelled : (d : Database) → IsSound d → (name : List ℕ) (row : Row) → refusal_by (table_named name (tables_in d.objects)) row ≡ None → IsSpelled name row
row_spelled d sound name row keeps =
    let t = passed (table_named name (tables_in d.objects)) row keeps in
    let its = name_stored d sound name t.0 t.1 in
    let values = fits_stored t.0.columns row (first_true (fits t.0.columns row) (none_lacks t.0.columns row) (first_true (fits t.0.columns row && none_lacks t.0.columns row) (all_pass t.0.rules row) (holds_of t.0 row t.2))) in
    record { named = its.0; counted = subst (λ (n : ℕ). n < 256) (sym values.0) its.1; stored = values.1 }

-- ---- ids

is_id : (id : ℕ) → 0 < id → id < 2 ^ 63 → is_row_id id ≡ true
is_id id low high = and_true (nat_lt 0 id) (nat_lt id (2 ^ 63)) (is_below 0 id low) (is_below id (2 ^ 63) high)

-- the table has room for a row more
pub record HasNext (o : Option Content) (id : ℕ) : Type 0 where
  pub content : Content
  pub is : o ≡ Some content
  pub room : is_full content ≡ false
  pub next : content.next ≡ id

pub has_next : (o : Option Content) (id : ℕ) → free_id o ≡ Some id → HasNext o id
has_next None id is = absurd (none_some id is)
has_next (Some c) id is =
    (elim (is_full c) as (λ (b : Bool). is_full c ≡ b → id_if b c.next ≡ Some id → HasNext (Some c) id) [
      | true ↦ λ e h. absurd (none_some id h)
      | false ↦ λ e h. record { content = c; is = refl; room = e; next = some_is c.next id h }
    ]) refl is

pub next_is_id : (t : TableDef) (c : Content) → IsSoundTable t c → is_full c ≡ false → is_row_id c.next ≡ true
next_is_id t c sound room =
    let start = rows_end t 1 c.rows c.next sound.rows in
    is_id c.next (omega (arith, start)) (is_above (2 ^ 63) c.next (or_false (nat_le 1000000 (length c.rows)) (nat_le (2 ^ 63) c.next) room).1)

-- the row of an id that is there
pub record HasRow (o : Option Content) (id : ℕ) : Type 0 where
  pub content : Content
  pub is : o ≡ Some content
  pub row : Row
  pub there : row_at id content.rows ≡ Some row

pub has_row : (o : Option Content) (id : ℕ) → IsSome (row_at id (rows_of o)) → HasRow o id
has_row None id some = absurd (false_true some)
has_row (Some c) id some = let found = held (row_at id c.rows) some in record { content = c; is = refl; row = found.0; there = found.1 }

pub there_is_id : (t : TableDef) (c : Content) → IsSoundTable t c → (id : ℕ) (row : Row) → row_at id c.rows ≡ Some row → is_row_id id ≡ true
there_is_id t c sound id row there =
    let inside = within t id 1 c.rows c.next row sound.rows there in
    let start = inside.0 in
    let end = inside.1 in
    let top = sound.next in
    is_id id (omega (arith, start)) (omega (arith, end, top))

pub there_named : (d : Database) → IsSound d → (name : List ℕ) (id : ℕ) → IsSome (row_named name id d.tables) → is_table_name name ≡ true
there_named d sound name id some =
    let r = has_row (content_named name d.tables) id some in
    let t = table_of_content name d sound.whole r.content r.is in
    (name_stored d sound name t.0 t.1).0
