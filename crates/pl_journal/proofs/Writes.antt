-- Rows that are written, each with its operation behind the payload.
use Rattle.std.proofs.Common.{◌≡◌, ◌↔◌, ◌++◌, ◌∙◌, ℕ, List, length, take, Bool, true, false, Option, Some, None, Result, Ok, Err, sym, ap, subst}
use Rattle.std.specs.Prelude.{is_some, option_map, IsSome}
use Rattle.pl_base.specs.States.{PROGRAM_LIMIT_EXCEEDED}
use Rattle.pl_base.specs.declared.operation.Op.TheVariants.{Put, Remove}
use Rattle.pl_base.specs.declared.state.State.{State}
use Rattle.pl_catalog.specs.Objects.{table_named, tables_in}
use Rattle.pl_catalog.specs.declared.object.TableDef.{TableDef}
use Rattle.pl_codec.specs.ReadBack.{OpReadsBack}
use Rattle.pl_codec.specs.Spelling.{is_row_id, is_table_name, op_bytes}
use Rattle.pl_journal.specs.Journal.{IsKept, Leads}
use Rattle.pl_journal.specs.Steps.{free_id, refusal_by, refusal_of, Continues}
use Rattle.pl_journal.specs.Writing.{written}
use Rattle.pl_journal.proofs.Payload.{cut_back}
use Rattle.pl_journal.proofs.Steps.{as_written, full_written, insert_is, insert_stored, kept_more, kept_same, remove_is, replace_is, replace_stored}
use Rattle.pl_journal.proofs.Stored.{has_next, passed, row_spelled, there_named, IsSpelled}
use Rattle.pl_journal.proofs.Taken.{added, not_added, not_replaced, replaced_by}
use Rattle.pl_journal.proofs.Truths.{held, some_is, true_false}
use Rattle.pl_tables.specs.Named.{Named, content_named, is_full_named, row_named, HoldsIn}
use Rattle.pl_tables.specs.Rows.{Content, inserted, is_full, removed, replaced}
use Rattle.pl_tables.specs.declared.table.TableFail.{TableFail}
use Rattle.pl_tables.specs.declared.table.TableFail.TheVariants.{Full, Taken}
use Rattle.pl_undo.specs.Database.{Database, on_rows}
use Rattle.pl_undo.specs.DatabaseLaws.{content_of_table}
use Rattle.pl_undo.specs.Store.{Stored}
use Rattle.pl_value.specs.Frames.{Row}

-- the call that is refused leaves all as it was
module _ (payload longer cut bytes : List ℕ) (size : ℕ) (s t : Stored) (kept : IsKept payload s) where
  pub refused_kept : longer ≡ payload ++ bytes → size ≡ length payload → cut ≡ take size longer → t.now ≡ s.now → t.last ≡ s.last → t.marks ≡ s.marks → Continues payload cut s t
  refused_kept is so cuts is_now is_last is_marks = kept_same payload cut s t kept (cut_back payload longer bytes cut size is so cuts) is_now is_last is_marks

module _ (payload : List ℕ) (s : Stored) (kept : IsKept payload s) (name : List ℕ) (row : Row) (keeps : refusal_by (table_named name (tables_in s.now.objects)) row ≡ None) where
  pub spelled : IsSpelled name row
  spelled = row_spelled s.now kept.now name row keeps

  -- the table is full
  pub full_leads : free_id (content_named name s.now.tables) ≡ None → written s.now.objects name None row s.now.tables ≡ Err PROGRAM_LIMIT_EXCEEDED
  full_leads none =
      let t = passed (table_named name (tables_in s.now.objects)) row keeps in
      let c = held (content_named name s.now.tables) (content_of_table name s.now kept.now.whole (ap (λ (o : Option TableDef). is_some o) t.1)) in
      as_written s.now kept.now name row keeps None s.now.tables ∙ full_written row name s.now.tables c.0 c.1 none

  -- a row more
  module _ (id : ℕ) (is_free : free_id (content_named name s.now.tables) ≡ Some id) where
    pub there_is : IsSome (content_named name s.now.tables)
    there_is = ap (λ (o : Option Content). is_some o) (has_next (content_named name s.now.tables) id is_free).is

    pub has_id : is_row_id id ≡ true
    has_id = insert_stored s.now kept.now name row keeps id is_free

    pub inserted_kept : (longer : List ℕ) (t : Stored) → ((holder : ℕ) → HoldsIn row holder (content_named name s.now.tables) → ⊥) → OpReadsBack (Put name id row) → longer ≡ payload ++ op_bytes (Put name id row) → t.now ≡ on_rows name (inserted row) s.now → t.last ≡ s.last → t.marks ≡ s.marks → Continues payload longer s t
    inserted_kept longer t none back is is_now is_last is_marks =
        kept_more payload longer s t (Put name id row) kept back
        (insert_is s.now kept.now name row keeps id is_free none ∙ ap (λ (d : Database). let o : Option Database = Some d in o) (sym is_now)) is is_last is_marks

    pub not_full : is_full_named name s.now.tables ≡ Some true → ⊥
    not_full full =
        let n = has_next (content_named name s.now.tables) id is_free in
        unlike (is_full n.content) n.room (sym (ap (λ (o : Option Content). option_map is_full o) n.is) ∙ full)
      where
        unlike : (b : Bool) → b ≡ false → (let o : Option Bool = Some b in o ≡ Some true) → ⊥
        unlike b is some = true_false (sym (some_is b true some) ∙ is)

    pub insert_leads : (t : Stored) → ((holder : ℕ) → HoldsIn row holder (content_named name s.now.tables) → ⊥) → t.now ≡ on_rows name (inserted row) s.now → written s.now.objects name None row s.now.tables ≡ Ok t.now.tables
    insert_leads t none is_now =
        as_written s.now kept.now name row keeps None s.now.tables
        ∙ added name row s.now.tables t.now.tables not_full none (ap (λ (d : Database). d.tables) is_now)

    pub insert_refused : (r : Result ℕ TableFail) (why : TableFail) (now : List Named) → r ≡ Err why → (r ≡ Err Full) ↔ (is_full_named name s.now.tables ≡ Some true)
        → ((holder : ℕ) → r ≡ Err (Taken holder) → HoldsIn row holder (content_named name s.now.tables)) → Leads {A = Unit {0}} (written s.now.objects name None row s.now.tables) (Err (refusal_of why)) now
    insert_refused r why now is full holds-it =
        subst (λ (x : Result (List Named) State). Leads {A = Unit {0}} x (Err (refusal_of why)) now) (sym (as_written s.now kept.now name row keeps None s.now.tables))
        (not_added name row s.now.tables (Unit {0}) r why now is full holds-it)

  -- another row
  module _ (id : ℕ) (some : IsSome (row_named name id s.now.tables)) where
    pub old_id : is_row_id id ≡ true
    old_id = replace_stored s.now kept.now name row keeps id some

    pub replaced_kept : (longer : List ℕ) (t : Stored) → ((holder : ℕ) → HoldsIn row holder (content_named name s.now.tables) → holder ≡ id) → OpReadsBack (Put name id row) → longer ≡ payload ++ op_bytes (Put name id row) → t.now ≡ on_rows name (replaced id row) s.now → t.last ≡ s.last → t.marks ≡ s.marks → Continues payload longer s t
    replaced_kept longer t none back is is_now is_last is_marks =
        kept_more payload longer s t (Put name id row) kept back
        (replace_is s.now kept.now name row keeps id some none ∙ ap (λ (d : Database). let o : Option Database = Some d in o) (sym is_now)) is is_last is_marks

    pub replace_leads : (t : Stored) → ((holder : ℕ) → HoldsIn row holder (content_named name s.now.tables) → holder ≡ id) → t.now ≡ on_rows name (replaced id row) s.now → written s.now.objects name (Some id) row s.now.tables ≡ Ok t.now.tables
    replace_leads t none is_now =
        as_written s.now kept.now name row keeps (Some id) s.now.tables
        ∙ replaced_by name row s.now.tables id t.now.tables none (ap (λ (d : Database). d.tables) is_now)

    pub replace_refused : {T : Type 0} (r : Result T TableFail) (why : TableFail) (now : List Named) → r ≡ Err why → (r ≡ Err Full → ⊥)
        → ((holder : ℕ) → r ≡ Err (Taken holder) → (holder ≡ id → ⊥) × HoldsIn row holder (content_named name s.now.tables)) → Leads {A = Unit {0}} (written s.now.objects name (Some id) row s.now.tables) (Err (refusal_of why)) now
    replace_refused r why now is full holds-it =
        subst (λ (x : Result (List Named) State). Leads {A = Unit {0}} x (Err (refusal_of why)) now) (sym (as_written s.now kept.now name row keeps (Some id) s.now.tables))
        (not_replaced name row s.now.tables id (Unit {0}) r why now is full holds-it)

-- a row goes
module _ (payload : List ℕ) (s : Stored) (kept : IsKept payload s) (name : List ℕ) (id : ℕ) (some : IsSome (row_named name id s.now.tables)) where
  pub its_name : is_table_name name ≡ true
  its_name = there_named s.now kept.now name id some

  pub removed_kept : (longer : List ℕ) (t : Stored) → OpReadsBack (Remove name id) → longer ≡ payload ++ op_bytes (Remove name id) → t.now ≡ on_rows name (removed id) s.now → t.last ≡ s.last → t.marks ≡ s.marks → Continues payload longer s t
  removed_kept longer t back is is_now is_last is_marks =
      kept_more payload longer s t (Remove name id) kept back
      (remove_is s.now name id some ∙ ap (λ (d : Database). let o : Option Database = Some d in o) (sym is_now)) is is_last is_marks
