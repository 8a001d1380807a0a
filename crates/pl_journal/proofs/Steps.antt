-- What each write is as an operation, and that a journal stays kept.
use Rattle.std.proofs.Common.{◌≡◌, ◌+◌, ◌^◌, ◌&&◌, ◌||◌, ◌++◌, ◌∙◌, ℕ, max, List, [], length, cond, nat_eq, nat_le, nat_lt, not, Bool, true, false, Option, Some, None, Result, Err, refl, sym, ap, subst, arith}
use Rattle.std.specs.Prelude.{is_some, option_and_then, option_map, IsSome}
use Rattle.std.proofs.lemmas.List.{append-nil}
use Rattle.pl_base.specs.States.{PROGRAM_LIMIT_EXCEEDED}
use Rattle.pl_base.specs.declared.operation.Op.{Op}
use Rattle.pl_base.specs.declared.operation.Op.TheVariants.{Put, Remove}
use Rattle.pl_base.specs.declared.state.State.{State}
use Rattle.pl_catalog.specs.Objects.{table_named, tables_in}
use Rattle.pl_catalog.specs.declared.object.TableDef.{TableDef}
use Rattle.pl_codec.specs.ReadBack.{OpReadsBack}
use Rattle.pl_codec.specs.Spelling.{is_row_id, op_bytes}
use Rattle.pl_journal.specs.Journal.{IsKept, Leads, LeadsTo}
use Rattle.pl_journal.specs.Operation.{apply, apply_all, may_stand, put, put_in}
use Rattle.pl_journal.specs.Sound.{IsSound, IsSoundTable}
use Rattle.pl_journal.specs.Steps.{free_id, id_if, refusal_by, Continues, Refuses}
use Rattle.pl_journal.specs.Writing.{is_taken_beside, state_of, unless, with_row, unless_broken, written, written_by}
use Rattle.pl_journal.proofs.OneTable.{changed_alike}
use Rattle.pl_journal.proofs.Payload.{leads_more, leads_nowhere}
use Rattle.pl_journal.proofs.Rows.{put_last, put_over, within}
use Rattle.pl_journal.proofs.Sound.{apply_keeps}
use Rattle.pl_journal.proofs.Stored.{has_next, has_row, holds_of, next_is_id, passed, there_is_id}
use Rattle.pl_journal.proofs.Taken.{apart, free, full_refused}
use Rattle.pl_journal.proofs.Truths.{and_true, is_above, is_below, none_some, or_false, or_true, some_is}
use Rattle.pl_rules.specs.Rules.{holds, first_failure}
use Rattle.pl_rules.specs.declared.rules.RuleFail.{RuleFail}
use Rattle.pl_tables.specs.Named.{Named, content_named, on_table, row_named, HoldsIn}
use Rattle.pl_tables.specs.Rows.{Content, Holds, has_room, inserted, is_full, put_at, removed, replaced, row_at}
use Rattle.pl_undo.specs.Database.{Database, database, on_rows}
use Rattle.pl_undo.specs.Store.{Stored}
use Rattle.pl_value.specs.Frames.{Row}
use Rattle.pl_value.specs.declared.operand.Unsettled.{Unsettled}
use Rattle.pl_value.specs.declared.operand.Unsettled.TheVariants.{Fails, Memory}

-- ---- a journal stays kept

leads_same : (payload cut : List ℕ) (last now last' now' : Database) → LeadsTo payload last now → cut ≡ payload → last' ≡ last → now' ≡ now → LeadsTo cut last' now'
leads_same payload cut last now last' now' so is is_last is_now =
    record { ops = so.ops; spelled = is ∙ so.spelled; back = so.back; leads = ap (λ (d : Database). apply_all so.ops d) is_last ∙ (so.leads ∙ ap (λ (d : Database). let o : Option Database = Some d in o) (sym is_now)) }

pub kept_same : (payload cut : List ℕ) (s t : Stored) → IsKept payload s → cut ≡ payload → t.now ≡ s.now → t.last ≡ s.last → t.marks ≡ s.marks → Continues payload cut s t
kept_same payload cut s t kept is is_now is_last is_marks =
    record {
      kept = record {
        now = subst (λ (d : Database). IsSound d) (sym is_now) kept.now;
        last = subst (λ (d : Database). IsSound d) (sym is_last) kept.last;
        leads = leads_same payload cut s.last s.now t.last t.now kept.leads is is_last is_now;
      };
      more = [];
      grows = is ∙ sym (append-nil payload);
      last = is_last;
      marks = is_marks;
    }

pub kept_more : (payload longer : List ℕ) (s t : Stored) (op : Op) → IsKept payload s → OpReadsBack op → apply op s.now ≡ Some t.now → longer ≡ payload ++ op_bytes op → t.last ≡ s.last → t.marks ≡ s.marks → Continues payload longer s t
kept_more payload longer s t op kept back done is is_last is_marks =
    record {
      kept = record {
        now = apply_keeps op s.now t.now done kept.now;
        last = subst (λ (d : Database). IsSound d) (sym is_last) kept.last;
        leads = leads_same (payload ++ op_bytes op) longer s.last t.now t.last t.now (leads_more payload s.last s.now t.now op kept.leads back done) is is_last refl;
      };
      more = op_bytes op;
      grows = is;
      last = is_last;
      marks = is_marks;
    }

pub kept_at_rest : (payload : List ℕ) (s : Stored) → payload ≡ [] → IsSound s.now → s.last ≡ s.now → IsKept payload s
kept_at_rest payload s is sound is_last =
    record { now = sound; last = subst (λ (d : Database). IsSound d) (sym is_last) sound; leads = leads_same [] payload s.now s.now s.last s.now (leads_nowhere s.now) is is_last refl }

-- ---- a row under an id

-- the row may stand there
module _ (d : Database) (name : List ℕ) (id : ℕ) (row : Row) where
  pub put_done : (t : TableDef) (c : Content) → is_row_id id ≡ true → table_named name (tables_in d.objects) ≡ Some t → content_named name d.tables ≡ Some c → may_stand t id row c ≡ true → apply (Put name id row) d ≡ Some (on_rows name (put_at id row) d)
  put_done t c is_id is_t is_c may =
      ap (λ (b : Bool). cond b (put name id row d) None) is_id
      ∙ (ap (λ (o : Option TableDef). option_and_then (λ (u : TableDef). option_and_then (put_in u name id row d) (content_named name d.tables)) o) is_t
      ∙ (ap (λ (o : Option Content). option_and_then (put_in t name id row d) o) is_c
      ∙ ap (λ (b : Bool). let o : Option Database = cond b (Some (on_rows name (put_at id row) d)) None in o) may))

  pub put_none : (t : TableDef) (c : Content) → is_row_id id ≡ true → table_named name (tables_in d.objects) ≡ Some t → content_named name d.tables ≡ Some c → may_stand t id row c ≡ false → apply (Put name id row) d ≡ None
  put_none t c is_id is_t is_c may =
      ap (λ (b : Bool). cond b (put name id row d) None) is_id
      ∙ (ap (λ (o : Option TableDef). option_and_then (λ (u : TableDef). option_and_then (put_in u name id row d) (content_named name d.tables)) o) is_t
      ∙ (ap (λ (o : Option Content). option_and_then (put_in t name id row d) o) is_c
      ∙ ap (λ (b : Bool). let o : Option Database = cond b (Some (on_rows name (put_at id row) d)) None in o) may))

pub stands : (t : TableDef) (id : ℕ) (row : Row) (c : Content) → holds t row ≡ true → has_room id c ≡ true → is_taken_beside id row c ≡ false → may_stand t id row c ≡ true
stands t id row c fit room untaken =
    and_true (holds t row && has_room id c) (not (is_taken_beside id row c)) (and_true (holds t row) (has_room id c) fit room) (ap (λ (b : Bool). not b) untaken)

-- where no other row has a key of it
pub untaken_beside : (id : ℕ) (row : Row) (c : Content) → ((holder : ℕ) → Holds row c holder → holder ≡ id) → is_taken_beside id row c ≡ false
untaken_beside id row c none = free row c (λ (n : ℕ). not (nat_eq n id)) (λ holder so has. apart row id holder so (none holder has))

in_content : (row : Row) (o : Option Content) (c : Content) → o ≡ Some c → (holder : ℕ) → Holds row c holder → HoldsIn row holder o
in_content row o c is holder has = subst (λ (p : Option Content). HoldsIn row holder p) (sym is) has

-- ---- a new row

room_of : (c : Content) → is_full c ≡ false → has_room c.next c ≡ true
room_of c room = or_true (is_some (row_at c.next c.rows)) (nat_lt (length c.rows) 1000000) (is_below (length c.rows) 1000000 (is_above 1000000 (length c.rows) (or_false (nat_le 1000000 (length c.rows)) (nat_le (2 ^ 63) c.next) room).0))

insert_alike : (t : TableDef) (row : Row) (c : Content) → IsSoundTable t c → put_at c.next row c ≡ inserted row c
insert_alike t row c sound =
    (λ i. let made : Content = record { next = bigger i; rows = put_last t c.next row 1 c.rows c.next (omega arith) sound.rows i; keys = c.keys } in made)
  where
    bigger : max c.next (c.next + 1) ≡ c.next + 1
    bigger = omega arith

module _ (d : Database) (sound : IsSound d) (name : List ℕ) (row : Row) (keeps : refusal_by (table_named name (tables_in d.objects)) row ≡ None) where
  pub insert_is : (id : ℕ) → free_id (content_named name d.tables) ≡ Some id → ((holder : ℕ) → HoldsIn row holder (content_named name d.tables) → ⊥) → apply (Put name id row) d ≡ Some (on_rows name (inserted row) d)
  insert_is id is none =
      let t = passed (table_named name (tables_in d.objects)) row keeps in
      let n = has_next (content_named name d.tables) id is in
      let own = sound.tables name t.0 n.content t.1 n.is in
      subst (λ (m : ℕ). apply (Put name m row) d ≡ Some (on_rows name (inserted row) d)) n.next
      (put_done d name n.content.next row t.0 n.content (next_is_id t.0 n.content own n.room) t.1 n.is
      (stands t.0 n.content.next row n.content (holds_of t.0 row t.2) (room_of n.content n.room)
      (untaken_beside n.content.next row n.content (λ holder has. absurd (none holder (in_content row (content_named name d.tables) n.content n.is holder has)))))
      ∙ ap (λ (ts : List Named). let o : Option Database = Some (database d.objects ts) in o)
      (changed_alike name (put_at n.content.next row) (inserted row) n.content (insert_alike t.0 row n.content own) d.tables n.is))

  pub insert_stored : (id : ℕ) → free_id (content_named name d.tables) ≡ Some id → is_row_id id ≡ true
  insert_stored id is =
      let t = passed (table_named name (tables_in d.objects)) row keeps in
      let n = has_next (content_named name d.tables) id is in
      ap (λ (m : ℕ). is_row_id m) (sym n.next) ∙ next_is_id t.0 n.content (sound.tables name t.0 n.content t.1 n.is) n.room

  -- ---- another row

  module _ (id : ℕ) (some : IsSome (row_named name id d.tables)) where
    pub replace_is : ((holder : ℕ) → HoldsIn row holder (content_named name d.tables) → holder ≡ id) → apply (Put name id row) d ≡ Some (on_rows name (replaced id row) d)
    replace_is none =
        let t = passed (table_named name (tables_in d.objects)) row keeps in
        let r = has_row (content_named name d.tables) id some in
        let own = sound.tables name t.0 r.content t.1 r.is in
        put_done d name id row t.0 r.content (there_is_id t.0 r.content own id r.row r.there) t.1 r.is
        (stands t.0 id row r.content (holds_of t.0 row t.2) (there_room id r.content r.row r.there)
        (untaken_beside id row r.content (λ holder has. none holder (in_content row (content_named name d.tables) r.content r.is holder has))))
        ∙ ap (λ (ts : List Named). let o : Option Database = Some (database d.objects ts) in o)
        (changed_alike name (put_at id row) (replaced id row) r.content (replace_alike t.0 r.content own r.row r.there) d.tables r.is)
      where
        there_room : (key : ℕ) (c : Content) (old : Row) → row_at key c.rows ≡ Some old → has_room key c ≡ true
        there_room key c old there = ap (λ (o : Option Row). is_some o || nat_lt (length c.rows) 1000000) there

        replace_alike : (t : TableDef) (c : Content) → IsSoundTable t c → (old : Row) → row_at id c.rows ≡ Some old → put_at id row c ≡ replaced id row c
        replace_alike t c own old there =
            let inside = within t id 1 c.rows c.next old own.rows there in
            let end = inside.1 in
            let same : max c.next (id + 1) ≡ c.next = omega (arith, end) in
            (λ i. let made : Content = record { next = same i; rows = put_over t id row 1 c.rows c.next own.rows (ap (λ (o : Option Row). is_some o) there) i; keys = c.keys } in made)

    pub replace_stored : is_row_id id ≡ true
    replace_stored =
        let t = passed (table_named name (tables_in d.objects)) row keeps in
        let r = has_row (content_named name d.tables) id some in
        there_is_id t.0 r.content (sound.tables name t.0 r.content t.1 r.is) id r.row r.there

  -- the rules let it pass, so it is written as its keys say
  pub as_written : (id : Option ℕ) (ts : List Named) → written d.objects name id row ts ≡ with_row name id row ts
  as_written id ts = passed_on (table_named name (tables_in d.objects)) keeps
    where
      by_failure : (t : TableDef) (f : Option RuleFail) → option_map state_of f ≡ None → f ≡ None
      by_failure t None is = refl
      by_failure t (Some fail) is = absurd (none_some (state_of fail) (sym is))

      passed_on : (o : Option TableDef) → refusal_by o row ≡ None → written_by o name id row ts ≡ with_row name id row ts
      passed_on None is = absurd (none_some _ (sym is))
      passed_on (Some t) is = ap (λ (f : Option RuleFail). unless_broken f (with_row name id row ts)) (by_failure t (first_failure t row) is)

-- ---- a row that is refused

module _ (row : Row) (name : List ℕ) (id : Option ℕ) (ts : List Named) where
  broken_by : (f : Option RuleFail) (state : State) → option_map state_of f ≡ Some state → unless_broken f (with_row name id row ts) ≡ Err state
  broken_by None state is = absurd (none_some state is)
  broken_by (Some fail) state is = ap (λ (s : State). let r : Result (List Named) State = Err s in r) (some_is (state_of fail) state is)

  refused_by : (o : Option TableDef) (state : State) → refusal_by o row ≡ Some state → written_by o name id row ts ≡ Err state
  refused_by None state is = ap (λ (s : State). let r : Result (List Named) State = Err s in r) (some_is _ state is)
  refused_by (Some t) state is = broken_by (first_failure t row) state is

  pub not_written : (A B : Type 0) (o : Option TableDef) (why : Unsettled) (now : List Named) → Refuses {A = A} (refusal_by o row) (Err why) → Leads {A = B} (written_by o name id row ts) (Err why) now
  not_written A B o (Fails state) now is = refused_by o state is
  not_written A B o Memory now is = tt

-- where no id is free the table is full
pub full_written : (row : Row) (name : List ℕ) (ts : List Named) (c : Content) → content_named name ts ≡ Some c → free_id (content_named name ts) ≡ None → with_row name None row ts ≡ Err PROGRAM_LIMIT_EXCEEDED
full_written row name ts c is none =
    ap (λ (o : Option State). unless o (on_table name (inserted row) ts)) (full_refused row (content_named name ts) (ap (λ (o : Option Content). option_map is_full o) is ∙ ap (λ (b : Bool). let o : Option Bool = Some b in o) full))
  where
    is_so : (b : Bool) → id_if b c.next ≡ None → b ≡ true
    is_so true h = refl
    is_so false h = absurd (none_some c.next (sym h))

    full : is_full c ≡ true
    full = is_so (is_full c) (sym (ap (λ (o : Option Content). free_id o) is) ∙ none)

-- ---- a row that goes

pub remove_is : (d : Database) (name : List ℕ) (id : ℕ) → is_some (row_named name id d.tables) ≡ true → apply (Remove name id) d ≡ Some (on_rows name (removed id) d)
remove_is d name id some = ap (λ (b : Bool). let o : Option Database = cond b (Some (on_rows name (removed id) d)) None in o) some
