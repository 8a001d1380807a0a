-- What operations keep of a database.
use Rattle.std.proofs.Common.{◌≡◌, ◌≤◌, ◌^◌, ◌&&◌, ℕ, List, [], ◌∷◌, ◌++◌, cond, nat_eq, nat_le, nat_lt, not, Bool, true, false, Option, Some, None, Ok, Err, refl, sym, ◌∙◌, ap, subst}
use Rattle.std.specs.Prelude.{is_some, option_and_then, option_map}
use Rattle.std.specs.Cmp.Lexicographic.{pointwise}
use Rattle.pl_base.specs.States.{DEPENDENT_OBJECTS_STILL_EXIST, FEATURE_NOT_SUPPORTED}
use Rattle.pl_base.specs.declared.operation.Op.{Op}
use Rattle.pl_base.specs.declared.operation.Op.TheVariants.{Define, Put, Remove, Next}
use Rattle.pl_base.specs.declared.state.State.{State}
use Rattle.pl_catalog.specs.Dependents.{first_dependent}
use Rattle.pl_catalog.specs.declared.object.Object.{Object}
use Rattle.pl_catalog.specs.declared.object.Object.TheVariants as object
use Rattle.pl_catalog.specs.declared.object.Routine.{Routine}
use Rattle.pl_catalog.specs.declared.object.TableDef.{TableDef}
use Rattle.pl_catalog.specs.declared.object.Which.{Which}
use Rattle.pl_catalog.specs.declared.object.Which.TheVariants as which
use Rattle.pl_catalog.specs.Objects.{is_same, object_called, table_named, tables_in, which_of, without}
use Rattle.pl_codec.specs.Spelling.{is_row_id}
use Rattle.pl_define.specs.Definition.{defined, text_of}
use Rattle.pl_define.specs.declared.definition.Defined.{Defined}
use Rattle.pl_define.specs.declared.definition.Defined.TheVariants.{Add, Drop, Nothing, Replace}
use Rattle.pl_define.proofs.Done as laws
use Rattle.pl_journal.specs.Definitions.{Behind, behind, carried_out, is_stored_object, redefined, unless_needed}
use Rattle.pl_journal.specs.Operation.{apply, apply_all, behind_it, empty, may_stand, put, put_in, raise, raise_from}
use Rattle.pl_journal.specs.Sound.{IsMade, IsSound, IsSoundTable}
use Rattle.pl_journal.specs.Writing.{is_taken_beside}
use Rattle.pl_journal.proofs.Objects.{content_before, content_last, content_stays, exchanged_stay, gone, made_exchanged, made_less, made_more, no_content, others_stay, table_before, table_last, table_stays, tables_alone, tables_more}
use Rattle.pl_journal.proofs.OneContent.{new_sound, none_other, put_sound, raised_sound, removed_sound}
use Rattle.pl_journal.proofs.OneTable as one
use Rattle.pl_journal.proofs.OneTable.{content_changed, same_text}
use Rattle.pl_journal.proofs.Truths.{below, chained, first_true, held, mapped, none_some, not_true, second_true, some_is, tested, upto}
use Rattle.pl_define.specs.pl_reading.Computed.{definition_in}
use Rattle.pl_rules.specs.Rules.{holds}
use Rattle.pl_tables.specs.Named.{Named, content_named, named, next_named, on_table, row_named}
use Rattle.pl_tables.specs.Rows.{Content, has_room, no_rows, put_at, raised, removed}
use Rattle.pl_tree.specs.declared.command.Definition.{Definition}
use Rattle.pl_define.specs.pl_typing.Resolved.{Resolved}
use Rattle.pl_undo.specs.Database.{Database, keys_in, on_rows, with_exchanged, with_object, without_object}
use Rattle.pl_undo.specs.DatabaseLaws.{content_of_table, whole_exchanged, whole_on, whole_with, whole_without}
use Rattle.pl_value.specs.Frames.{Row}

-- ---- rows

-- the rows of one table are changed
module _ (name : List ℕ) (change : Content → Content) (d : Database) (sound : IsSound d) where
  module _ (keeps : (t : TableDef) (c : Content) → table_named name (tables_in d.objects) ≡ Some t → content_named name d.tables ≡ Some c → IsSoundTable t c → IsSoundTable t (change c)) where
    the_one : (t : TableDef) (c : Content) → table_named name (tables_in d.objects) ≡ Some t → content_named name (on_table name change d.tables) ≡ Some c → IsSoundTable t c
    the_one t c is holds-it =
        let old = mapped change (content_named name d.tables) c (sym (content_changed name change d.tables) ∙ holds-it) in
        subst (λ (x : Content). IsSoundTable t x) old.2 (keeps t old.0 is old.1 (sound.tables name t old.0 is old.1))

    each : (other : List ℕ) (t : TableDef) (c : Content) → table_named other (tables_in d.objects) ≡ Some t → content_named other (on_table name change d.tables) ≡ Some c → IsSoundTable t c
    each other t c is holds-it =
        (elim (pointwise nat_eq name other) as (λ (b : Bool). pointwise nat_eq name other ≡ b → IsSoundTable t c) [
          | true ↦ λ e.
              let same : other ≡ name = sym (same_text name other e) in
              the_one t c (ap (λ (n : List ℕ). table_named n (tables_in d.objects)) (sym same) ∙ is) (ap (λ (n : List ℕ). content_named n (on_table name change d.tables)) (sym same) ∙ holds-it)
          | false ↦ λ e. sound.tables other t c is (sym (one.others_stay name change other e d.tables) ∙ holds-it)
        ]) refl

    pub rows_sound : IsSound (on_rows name change d)
    rows_sound = record { whole = whole_on name change d sound.whole; objects = sound.objects; tables = each }

-- a row is put
put_keeps : (name : List ℕ) (id : ℕ) (row : Row) (d next : Database) → is_row_id id ≡ true → put name id row d ≡ Some next → IsSound d → IsSound next
put_keeps name id row d next is_id is sound =
    let t = chained (λ (t : TableDef). option_and_then (put_in t name id row d) (content_named name d.tables)) (table_named name (tables_in d.objects)) next is in
    let c = chained (put_in t.0 name id row d) (content_named name d.tables) next t.2 in
    let may = tested (may_stand t.0 id row c.0) (Some (on_rows name (put_at id row) d)) next c.2 in
    subst (λ (e : Database). IsSound e) (some_is (on_rows name (put_at id row) d) next may.1)
    (rows_sound name (put_at id row) d sound (λ u e is_u is_e kept.
    let same_t : t.0 ≡ u = some_is t.0 u (sym t.1 ∙ is_u) in
    let same_c : c.0 ≡ e = some_is c.0 e (sym c.1 ∙ is_e) in
    may_put u e kept (subst (λ (x : TableDef). may_stand x id row e ≡ true) same_t (subst (λ (x : Content). may_stand t.0 id row x ≡ true) same_c may.0))))
  where
    may_put : (u : TableDef) (e : Content) → IsSoundTable u e → may_stand u id row e ≡ true → IsSoundTable u (put_at id row e)
    may_put u e kept may =
        let by_itself = first_true (holds u row && has_room id e) (not (is_taken_beside id row e)) may in
        put_sound u e kept id row (none_other u e kept id row (not_true (is_taken_beside id row e) (second_true (holds u row && has_room id e) (not (is_taken_beside id row e)) may)))
        (below 0 id (first_true (nat_lt 0 id) (nat_lt id (2 ^ 63)) is_id)) (below id (2 ^ 63) (second_true (nat_lt 0 id) (nat_lt id (2 ^ 63)) is_id))
        (first_true (holds u row) (has_room id e) by_itself) (second_true (holds u row) (has_room id e) by_itself)

pub remove_keeps : (name : List ℕ) (id : ℕ) (d : Database) → IsSound d → IsSound (on_rows name (removed id) d)
remove_keeps name id d sound = rows_sound name (removed id) d sound (λ t c is_t is_c kept. removed_sound t c kept id)

raise_keeps : (name : List ℕ) (top : ℕ) (d next : Database) → raise name top d ≡ Some next → IsSound d → IsSound next
raise_keeps name top d next is sound =
    let present = chained (raise_from name top d) (next_named name d.tables) next is in
    let may = tested (nat_le present.0 top && nat_le top (2 ^ 63)) (Some (on_rows name (raised top) d)) next present.2 in
    subst (λ (e : Database). IsSound e) (some_is (on_rows name (raised top) d) next may.1)
    (rows_sound name (raised top) d sound (λ t c is_t is_c kept.
    let same : present.0 ≡ c.next = some_is present.0 c.next (sym present.1 ∙ ap (λ (o : Option Content). option_map (λ (e : Content). e.next) o) is_c) in
    raised_sound t c kept top (subst (λ (n : ℕ). n ≤ top) same (upto present.0 top (first_true (nat_le present.0 top) (nat_le top (2 ^ 63)) may.0)))
    (upto top (2 ^ 63) (second_true (nat_le present.0 top) (nat_le top (2 ^ 63)) may.0))))

-- ---- objects

-- a table more
module _ (t : TableDef) (d : Database) (sound : IsSound d) (made : IsMade (object.Table t)) (free : object_called (which.Table t.name) d.objects ≡ None) where
  abbrev new_content : Named
  new_content = named t.name (no_rows (keys_in t.rules))

  last_one : (name : List ℕ) (u : TableDef) (c : Content) → table_named name (t ∷ []) ≡ Some u → content_named name (new_content ∷ []) ≡ Some c → IsSoundTable u c
  last_one name u c is holds-it =
      (elim (is_same t.name name) as (λ (b : Bool). (let o : Option TableDef = cond b (Some t) None in o) ≡ Some u → (let o : Option Content = cond b (Some (no_rows (keys_in t.rules))) None in o) ≡ Some c → IsSoundTable u c) [
        | true ↦ λ e f.
            subst (λ (x : Content). IsSoundTable u x) (some_is (no_rows (keys_in t.rules)) c f)
            (subst (λ (x : TableDef). IsSoundTable x (no_rows (keys_in t.rules))) (some_is t u e) (new_sound t))
        | false ↦ λ e f. absurd (none_some u e)
      ]) is holds-it

  each_more : (name : List ℕ) (u : TableDef) (c : Content) → table_named name (tables_in (d.objects ++ object.Table t ∷ [])) ≡ Some u → content_named name (d.tables ++ new_content ∷ []) ≡ Some c → IsSoundTable u c
  each_more name u c is holds-it =
      (elim (table_named name (tables_in d.objects)) as (λ (o : Option TableDef). table_named name (tables_in d.objects) ≡ o → IsSoundTable u c) [
        | None ↦ λ e.
            last_one name u c (sym (table_last name (tables_in d.objects) t e) ∙ (ap (λ (ts : List TableDef). table_named name ts) (sym (tables_more d.objects t)) ∙ is))
            (sym (content_last name d.tables new_content (no_content name d sound.whole e)) ∙ holds-it)
        | Some v ↦ λ e.
            let own : v ≡ u = some_is v u (sym (table_before name (tables_in d.objects) t v e) ∙ (ap (λ (ts : List TableDef). table_named name ts) (sym (tables_more d.objects t)) ∙ is)) in
            let old = held (content_named name d.tables) (content_of_table name d sound.whole (ap (λ (o : Option TableDef). is_some o) e)) in
            let its : old.0 ≡ c = some_is old.0 c (sym (content_before name d.tables new_content old.0 old.1) ∙ holds-it) in
            subst (λ (x : Content). IsSoundTable u x) its (subst (λ (x : TableDef). IsSoundTable x old.0) own (sound.tables name v old.0 e old.1))
      ]) refl

  pub added_sound : IsSound (with_object (object.Table t) d)
  added_sound = record { whole = whole_with (object.Table t) d sound.whole; objects = made_more [] d.objects (object.Table t) sound.objects made free; tables = each_more }

-- another object more
module _ (o : Object) (d : Database) (sound : IsSound d) (made : IsMade o) (free : object_called (which_of o) d.objects ≡ None) (alone : tables_in (o ∷ []) ≡ []) where
  more_tables : (ts : List Named) → ts ≡ d.tables → (name : List ℕ) (t : TableDef) (c : Content) → table_named name (tables_in (d.objects ++ o ∷ [])) ≡ Some t → content_named name ts ≡ Some c → IsSoundTable t c
  more_tables ts same name t c is holds-it =
      sound.tables name t c (ap (λ (us : List TableDef). table_named name us) (sym (tables_alone o alone d.objects)) ∙ is) (ap (λ (us : List Named). content_named name us) (sym same) ∙ holds-it)

  other_sound : (with_object o d).tables ≡ d.tables → IsSound (with_object o d)
  other_sound same = record { whole = whole_with o d sound.whole; objects = made_more [] d.objects o sound.objects made free; tables = more_tables (with_object o d).tables same }

pub more_sound : (o : Object) (d : Database) → IsSound d → IsMade o → object_called (which_of o) d.objects ≡ None → IsSound (with_object o d)
more_sound (object.Table t) d sound made free = added_sound t d sound made free
more_sound (object.Routine r) d sound made free = other_sound (object.Routine r) d sound made free refl refl
more_sound (object.Trigger t) d sound made free = other_sound (object.Trigger t) d sound made free refl refl

-- a routine in the place of another
pub replaced_sound : (r : Routine) (d : Database) → IsSound d → IsMade (object.Routine r) → IsSound (with_exchanged (object.Routine r) d)
replaced_sound r d sound made =
    record {
      whole = whole_exchanged (object.Routine r) d sound.whole;
      objects = made_exchanged r [] d.objects made sound.objects;
      tables = λ name t c is holds-it. sound.tables name t c (ap (λ (ts : List TableDef). table_named name ts) (sym (exchanged_stay r d.objects)) ∙ is) holds-it;
    }

-- an object less
dropped_tables : (w : Which) (d : Database) → IsSound d → (name : List ℕ) (t : TableDef) (c : Content)
    → table_named name (tables_in (without w d.objects)) ≡ Some t → content_named name (without_object w d).tables ≡ Some c → IsSoundTable t c
dropped_tables (which.Table dropped) d sound name t c is holds-it =
    (elim (is_same dropped name) as (λ (b : Bool). is_same dropped name ≡ b → IsSoundTable t c) [
      | true ↦ λ e.
          let same = same_text dropped name e in
          absurd (none_some t (sym (gone dropped [] d.objects sound.objects) ∙ (ap (λ (n : List ℕ). table_named n (tables_in (without (which.Table dropped) d.objects))) same ∙ is)))
      | false ↦ λ e. sound.tables name t c (sym (table_stays dropped name e d.objects) ∙ is) (sym (content_stays dropped name e d.tables) ∙ holds-it)
    ]) refl
dropped_tables (which.Routine dropped) d sound name t c is holds-it =
    sound.tables name t c (ap (λ (ts : List TableDef). table_named name ts) (sym (others_stay (which.Routine dropped) (λ u. refl) d.objects)) ∙ is) holds-it
dropped_tables (which.Trigger owner dropped) d sound name t c is holds-it =
    sound.tables name t c (ap (λ (ts : List TableDef). table_named name ts) (sym (others_stay (which.Trigger owner dropped) (λ u. refl) d.objects)) ∙ is) holds-it

pub dropped_sound : (w : Which) (d : Database) → IsSound d → IsSound (without_object w d)
dropped_sound w d sound = record { whole = whole_without w d sound.whole; objects = made_less w [] d.objects sound.objects; tables = dropped_tables w d sound }

-- ---- definitions

ok_is : {A : Type 0} (x y : A) → (let r : Resolved A = Ok x in r ≡ Ok y) → x ≡ y
ok_is x y h = cc

err_ok : {A : Type 0} (state : State) (x : A) → (let r : Resolved A = Err state in r ≡ Ok x) → ⊥
err_ok state x h = cc

-- an object of this text that the definition adds beside some others
made_by : (definition : Definition) (text : List ℕ) (others : List Object) (o : Object) → definition_in text ≡ Some definition → text_of o ≡ text → defined others definition text ≡ Ok (Add o) → is_stored_object o ≡ true → IsMade o
made_by definition text others o reads own_text adds is_stored =
    record {
      definition = definition;
      others = others;
      read = ap (λ (x : List ℕ). definition_in x) own_text ∙ reads;
      made = ap (λ (x : List ℕ). defined others definition x) own_text ∙ adds;
      stored = is_stored;
    }

added_by : (definition : Definition) (text : List ℕ) (d : Database) (o : Object) → definition_in text ≡ Some definition → defined d.objects definition text ≡ Ok (Add o) → is_stored_object o ≡ true → IsSound d → IsSound (with_object o d)
added_by definition text d o reads adds is_stored sound =
    more_sound o d sound (made_by definition text d.objects o reads (laws.added_text d.objects definition text o adds) adds is_stored) (laws.added_new d.objects definition text o adds)

replaced_by : (definition : Definition) (text : List ℕ) (d : Database) (o : Object) → definition_in text ≡ Some definition → defined d.objects definition text ≡ Ok (Replace o) → IsSound d → IsSound (with_exchanged o d)
replaced_by definition text d o reads replaces sound =
    let its = laws.replaced_routine d.objects definition text o replaces in
    let adds : defined [] definition text ≡ Ok (Add o) = laws.replacing_alike d.objects [] definition text o replaces refl in
    let made : IsMade o = made_by definition text [] o reads (laws.replacing_text d.objects definition text o replaces) adds (ap (λ (x : Object). is_stored_object x) its.1) in
    subst (λ (x : Object). IsSound (with_exchanged x d)) (sym its.1) (replaced_sound its.0 d sound (subst (λ (x : Object). IsMade x) its.1 made))

carried_sound : (definition : Definition) (text : List ℕ) (d : Database) → definition_in text ≡ Some definition → IsSound d → (r : Resolved Defined) → defined d.objects definition text ≡ r → (b : Behind) → carried_out r d ≡ Ok b → IsSound b.database
carried_sound definition text d reads sound (Err state) is b out = absurd (err_ok state b out)
carried_sound definition text d reads sound (Ok (Nothing state)) is b out = subst (λ (x : Behind). IsSound x.database) (ok_is (behind d (Some state)) b out) sound
carried_sound definition text d reads sound (Ok (Add o)) is b out =
    (elim (is_stored_object o) as (λ (c : Bool). is_stored_object o ≡ c → (let r : Resolved Behind = cond c (Ok (behind (with_object o d) None)) (Err FEATURE_NOT_SUPPORTED) in r ≡ Ok b) → IsSound b.database) [
      | true ↦ λ e h. subst (λ (x : Behind). IsSound x.database) (ok_is (behind (with_object o d) None) b h) (added_by definition text d o reads is e sound)
      | false ↦ λ e h. absurd (err_ok FEATURE_NOT_SUPPORTED b h)
    ]) refl out
carried_sound definition text d reads sound (Ok (Replace o)) is b out = subst (λ (x : Behind). IsSound x.database) (ok_is (behind (with_exchanged o d) None) b out) (replaced_by definition text d o reads is sound)
carried_sound definition text d reads sound (Ok (Drop w)) is b out =
    (elim (first_dependent w d.objects) as (λ (o : Option (List ℕ)). unless_needed o (without_object w d) ≡ Ok b → IsSound b.database) [
      | None ↦ λ h. subst (λ (x : Behind). IsSound x.database) (ok_is (behind (without_object w d) None) b h) (dropped_sound w d sound)
      | Some dependent ↦ λ h. absurd (err_ok DEPENDENT_OBJECTS_STILL_EXIST b h)
    ]) out

-- the database behind a definition
pub behind_is : (r : Resolved Behind) (next : Database) → behind_it r ≡ Some next → (b : Behind) × (r ≡ Ok b) × (b.database ≡ next)
behind_is (Ok b) next is = (b, refl, some_is b.database next is)
behind_is (Err state) next is = absurd (none_some next is)

pub redefined_sound : (definition : Definition) (text : List ℕ) (d : Database) (b : Behind) → definition_in text ≡ Some definition → redefined definition text d ≡ Ok b → IsSound d → IsSound b.database
redefined_sound definition text d b reads is sound = carried_sound definition text d reads sound (defined d.objects definition text) refl b is

define_keeps : (text : List ℕ) (d next : Database) → apply (Define text) d ≡ Some next → IsSound d → IsSound next
define_keeps text d next is sound =
    let read = chained (λ (definition : Definition). behind_it (redefined definition text d)) (definition_in text) next is in
    let b = behind_is (redefined read.0 text d) next read.2 in
    subst (λ (e : Database). IsSound e) b.2 (redefined_sound read.0 text d b.0 read.1 b.1 sound)

-- ---- operations

pub empty_sound : IsSound empty
empty_sound = record { whole = refl; objects = tt; tables = λ name t c is holds-it. absurd (none_some t is) }

pub apply_keeps : (op : Op) (d next : Database) → apply op d ≡ Some next → IsSound d → IsSound next
apply_keeps (Define text) d next is sound = define_keeps text d next is sound
apply_keeps (Put name id row) d next is sound =
    let may = tested (is_row_id id) (put name id row d) next is in
    put_keeps name id row d next may.0 may.1 sound
apply_keeps (Remove name id) d next is sound =
    let may = tested (is_some (row_named name id d.tables)) (Some (on_rows name (removed id) d)) next is in
    subst (λ (e : Database). IsSound e) (some_is (on_rows name (removed id) d) next may.1) (remove_keeps name id d sound)
apply_keeps (Next name top) d next is sound = raise_keeps name top d next is sound

pub apply_all_keeps : (ops : List Op) (d last : Database) → apply_all ops d ≡ Some last → IsSound d → IsSound last
apply_all_keeps [] d last is sound = subst (λ (e : Database). IsSound e) (some_is d last is) sound
apply_all_keeps (op ∷ ops) d last is sound =
    let first = chained (apply_all ops) (apply op d) last is in
    apply_all_keeps ops first.0 last first.2 (apply_keeps op d first.0 first.1 sound)
