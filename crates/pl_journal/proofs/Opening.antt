-- Operations that are done as a store is opened.
use Rattle.std.proofs.Common.{◌≡◌, ◌≢◌, ◌&&◌, ◌∙◌, ℕ, List, [], cond, nat_eq, not, Bool, true, false, Option, Some, None, Ok, Err, refl, sym, ap, subst}
use Rattle.std.specs.Prelude.{is_some, option_and_then, option_map}
use Rattle.std.specs.Option.{is_none}
use Rattle.pl_base.specs.States.{DEPENDENT_OBJECTS_STILL_EXIST, FEATURE_NOT_SUPPORTED}
use Rattle.pl_base.specs.declared.operation.Op.{Op}
use Rattle.pl_base.specs.declared.operation.Op.TheVariants.{Define, Put, Next}
use Rattle.pl_base.specs.declared.state.State.{State}
use Rattle.pl_catalog.specs.Dependents.{first_dependent}
use Rattle.pl_catalog.specs.Objects.{table_named, tables_in}
use Rattle.pl_catalog.specs.declared.object.TableDef.{TableDef}
use Rattle.pl_codec.specs.Spelling.{is_define_text, is_row_id}
use Rattle.pl_define.specs.declared.definition.Defined.{Defined}
use Rattle.pl_define.specs.declared.definition.Defined.TheVariants.{Add, Drop, Nothing, Replace}
use Rattle.pl_journal.specs.Definitions.{Behind, behind, carried_out, is_stored_object, redefined, unless_needed}
use Rattle.pl_journal.specs.Operation.{apply, behind_it, put, put_in, raise_from}
use Rattle.pl_journal.specs.Sound.{IsSound}
use Rattle.pl_journal.specs.Steps.{may_raise, refusal_by, IsAtRest}
use Rattle.pl_journal.specs.Writing.{is_taken_beside, state_of}
use Rattle.pl_journal.proofs.Sound.{apply_keeps}
use Rattle.pl_journal.proofs.Steps.{put_done, put_none, stands, untaken_beside}
use Rattle.pl_journal.proofs.Stored.{holds_of, passed}
use Rattle.pl_journal.proofs.Taken.{away, taken}
use Rattle.pl_journal.proofs.Truths.{and_false, held, none_some, some_is}
use Rattle.pl_define.proofs.of_pl_reading.Definitions.{found}
use Rattle.pl_define.specs.pl_reading.Computed.{definition_in}
use Rattle.pl_rules.proofs.Holding.{all_hold}
use Rattle.pl_rules.specs.Rules.{first_failure, holds}
use Rattle.pl_rules.specs.declared.rules.RuleFail.{RuleFail}
use Rattle.pl_tables.specs.Named.{content_named, has_room_named, next_named, HoldsIn}
use Rattle.pl_tables.specs.Rows.{Content, Holds, has_room, put_at, raised}
use Rattle.pl_tree.specs.declared.command.Definition.{Definition}
use Rattle.pl_define.specs.pl_typing.Resolved.{Resolved}
use Rattle.pl_undo.specs.Database.{Database, on_rows, with_exchanged, with_object, without_object}
use Rattle.pl_undo.specs.DatabaseLaws.{content_of_table}
use Rattle.pl_undo.specs.Store.{Stored}
use Rattle.pl_value.specs.Frames.{Row}

-- ---- at rest

pub rest_same : (s t : Stored) → IsAtRest s → t.now ≡ s.now → t.last ≡ t.now → t.marks ≡ [] → IsAtRest t
rest_same s t rest is last marks = record { sound = subst (λ (d : Database). IsSound d) (sym is) rest.sound; last = last; marks = marks }

pub rest_done : (op : Op) (s t : Stored) → IsAtRest s → apply op s.now ≡ Some t.now → t.last ≡ t.now → t.marks ≡ [] → IsAtRest t
rest_done op s t rest done last marks = record { sound = apply_keeps op s.now t.now done rest.sound; last = last; marks = marks }

-- ---- a row is put

pub no_id : (name : List ℕ) (id : ℕ) (row : Row) (d : Database) → is_row_id id ≡ false → apply (Put name id row) d ≡ None
no_id name id row d is = ap (λ (b : Bool). cond b (put name id row d) None) is

module _ (name : List ℕ) (id : ℕ) (row : Row) (d : Database) where
  unfit : (t : TableDef) (o : Option Content) → holds t row ≡ false → option_and_then (put_in t name id row d) o ≡ None
  unfit t None fails = refl
  unfit t (Some c) fails = ap (λ (b : Bool). let o : Option Database = cond (b && has_room id c && not (is_taken_beside id row c)) (Some (on_rows name (put_at id row) d)) None in o) fails

  fails : (t : TableDef) (f : Option RuleFail) (state : State) → first_failure t row ≡ f → option_map state_of f ≡ Some state → holds t row ≡ false
  fails t None state e is = absurd (none_some state is)
  fails t (Some fail) state e is = all_hold t row ∙ ap (λ (o : Option RuleFail). is_none o) e

  refused : (o : Option TableDef) (state : State) → refusal_by o row ≡ Some state → option_and_then (λ (t : TableDef). option_and_then (put_in t name id row d) (content_named name d.tables)) o ≡ None
  refused None state is = refl
  refused (Some t) state is = unfit t (content_named name d.tables) (fails t (first_failure t row) state refl is)

  -- the rules refuse it
  pub put_refused : is_row_id id ≡ true → (state : State) → refusal_by (table_named name (tables_in d.objects)) row ≡ Some state → apply (Put name id row) d ≡ None
  put_refused is_id state is = ap (λ (b : Bool). cond b (put name id row d) None) is_id ∙ refused (table_named name (tables_in d.objects)) state is

  -- they let it pass
  module _ (sound : IsSound d) (is_id : is_row_id id ≡ true) (keeps : refusal_by (table_named name (tables_in d.objects)) row ≡ None) where
    its_table : (t : TableDef) × (table_named name (tables_in d.objects) ≡ Some t) × (first_failure t row ≡ None)
    its_table = passed (table_named name (tables_in d.objects)) row keeps

    pub its_content : (c : Content) × (content_named name d.tables ≡ Some c)
    its_content = held (content_named name d.tables) (content_of_table name d sound.whole (ap (λ (o : Option TableDef). is_some o) its_table.1))

    in_it : (holder : ℕ) → HoldsIn row holder (content_named name d.tables) → Holds row its_content.0 holder
    in_it holder has = subst (λ (o : Option Content). HoldsIn row holder o) its_content.1 has

    pub put_ok : (has_room_named name id d.tables ≡ Some false → ⊥) → ((holder : ℕ) → HoldsIn row holder (content_named name d.tables) → holder ≡ id) → apply (Put name id row) d ≡ Some (on_rows name (put_at id row) d)
    put_ok room none =
        put_done d name id row its_table.0 its_content.0 is_id its_table.1 its_content.1
        (stands its_table.0 id row its_content.0 (holds_of its_table.0 row its_table.2)
        (has_one (has_room id its_content.0) (λ e. room (ap (λ (o : Option Content). option_map (has_room id) o) its_content.1 ∙ e)))
        (untaken_beside id row its_content.0 (λ holder has. none holder (subst (λ (o : Option Content). HoldsIn row holder o) (sym its_content.1) has))))
      where
        has_one : (b : Bool) → ((let o : Option Bool = Some b in o ≡ Some false) → ⊥) → b ≡ true
        has_one true no_room = refl
        has_one false no_room = absurd (no_room refl)

    pub put_full : has_room_named name id d.tables ≡ Some false → apply (Put name id row) d ≡ None
    put_full is =
        let none : has_room id its_content.0 ≡ false = some_is (has_room id its_content.0) false (sym (ap (λ (o : Option Content). option_map (has_room id) o) its_content.1) ∙ is) in
        put_none d name id row its_table.0 its_content.0 is_id its_table.1 its_content.1
        (ap (λ (b : Bool). b && not (is_taken_beside id row its_content.0)) (and_false (holds its_table.0 row) (has_room id its_content.0) none))

    pub put_taken : (holder : ℕ) → (holder ≢ id) → HoldsIn row holder (content_named name d.tables) → apply (Put name id row) d ≡ None
    put_taken holder differs has =
        let there : is_taken_beside id row its_content.0 ≡ true = taken row its_content.0 (λ (n : ℕ). not (nat_eq n id)) holder (away row id holder differs) (in_it holder has) in
        put_none d name id row its_table.0 its_content.0 is_id its_table.1 its_content.1
        (and_false (holds its_table.0 row && has_room id its_content.0) (not (is_taken_beside id row its_content.0)) (ap (λ (b : Bool). not b) there))

-- ---- the next id

module _ (name : List ℕ) (top : ℕ) (d : Database) where
  pub raise_is : (o : Option ℕ) → next_named name d.tables ≡ o → may_raise o top ≡ true → apply (Next name top) d ≡ Some (on_rows name (raised top) d)
  raise_is None e is = absurd cc
  raise_is (Some present) e is =
      ap (λ (o : Option ℕ). option_and_then (raise_from name top d) o) e
      ∙ ap (λ (b : Bool). let o : Option Database = cond b (Some (on_rows name (raised top) d)) None in o) is

  pub raise_none : (o : Option ℕ) → next_named name d.tables ≡ o → may_raise o top ≡ false → apply (Next name top) d ≡ None
  raise_none None e is = ap (λ (o : Option ℕ). option_and_then (raise_from name top d) o) e
  raise_none (Some present) e is =
      ap (λ (o : Option ℕ). option_and_then (raise_from name top d) o) e
      ∙ ap (λ (b : Bool). let o : Option Database = cond b (Some (on_rows name (raised top) d)) None in o) is

-- ---- definitions

pub is_text_of : (definition : Definition) (text : List ℕ) → definition_in text ≡ Some definition → is_define_text text ≡ true
is_text_of definition text reads = (found text definition reads).fits

pub define_none : (text : List ℕ) (d : Database) → definition_in text ≡ None → apply (Define text) d ≡ None
define_none text d none = ap (λ (o : Option Definition). option_and_then (λ (x : Definition). behind_it (redefined x text d)) o) none

module _ (definition : Definition) (text : List ℕ) (d : Database) (reads : definition_in text ≡ Some definition) where
  pub define_done : (next : Database) (notice : Option State) → redefined definition text d ≡ Ok (behind next notice) → apply (Define text) d ≡ Some next
  define_done next notice is =
      ap (λ (o : Option Definition). option_and_then (λ (x : Definition). behind_it (redefined x text d)) o) reads ∙ ap (λ (r : Resolved Behind). behind_it r) is

  pub define_refused : (state : State) → redefined definition text d ≡ Err state → apply (Define text) d ≡ None
  define_refused state is =
      ap (λ (o : Option Definition). option_and_then (λ (x : Definition). behind_it (redefined x text d)) o) reads ∙ ap (λ (r : Resolved Behind). behind_it r) is

-- a notice says that all stays as it is
module _ (d next : Database) (state : State) where
  not_noticed : (made : Database) → (let r : Resolved Behind = Ok (behind made None) in r ≡ Ok (behind next (Some state))) → ⊥
  not_noticed made h = none_some state (ap (λ (b : Behind). b.notice) (same (behind made None) (behind next (Some state)) h))
    where
      same : (x y : Behind) → (let r : Resolved Behind = Ok x in r ≡ Ok y) → x ≡ y
      same x y h = cc

  not_refused : (other : State) → (let r : Resolved Behind = Err other in r ≡ Ok (behind next (Some state))) → ⊥
  not_refused other h = cc

  pub noticed : (r : Resolved Defined) → carried_out r d ≡ Ok (behind next (Some state)) → next ≡ d
  noticed (Err other) h = absurd (not_refused other h)
  noticed (Ok (Nothing other)) h = ap (λ (b : Behind). b.database) (sym (same (behind d (Some other)) (behind next (Some state)) h))
    where
      same : (x y : Behind) → (let r : Resolved Behind = Ok x in r ≡ Ok y) → x ≡ y
      same x y h = cc
  noticed (Ok (Add o)) h =
      (elim (is_stored_object o) as (λ (c : Bool). (let r : Resolved Behind = cond c (Ok (behind (with_object o d) None)) (Err FEATURE_NOT_SUPPORTED) in r ≡ Ok (behind next (Some state))) → next ≡ d) [
        | true ↦ λ e. absurd (not_noticed (with_object o d) e)
        | false ↦ λ e. absurd (not_refused FEATURE_NOT_SUPPORTED e)
      ]) h
  noticed (Ok (Replace o)) h = absurd (not_noticed (with_exchanged o d) h)
  noticed (Ok (Drop w)) h =
      (elim (first_dependent w d.objects) as (λ (o : Option (List ℕ)). unless_needed o (without_object w d) ≡ Ok (behind next (Some state)) → next ≡ d) [
        | None ↦ λ e. absurd (not_noticed (without_object w d) e)
        | Some dependent ↦ λ e. absurd (not_refused DEPENDENT_OBJECTS_STILL_EXIST e)
      ]) h
