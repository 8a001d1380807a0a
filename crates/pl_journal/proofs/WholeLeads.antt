-- The operations of a whole database lead to it.
use Rattle.std.proofs.Common.{◌≡◌, ◌++◌, ◌∙◌, ℕ, List, [], ◌∷◌, nat_eq, Bool, true, false, cond, Option, Some, None, Ok, Err, refl, sym, ap, subst, append_assoc}
use Rattle.std.specs.Prelude.{option_and_then}
use Rattle.std.specs.Cmp.Lexicographic.{bytes_decides, pointwise}
use Rattle.std.specs.List.{AllByRecursion}
use Rattle.std.proofs.lemmas.List.{append-nil, map-append}
use Rattle.pl_base.specs.States.{FEATURE_NOT_SUPPORTED}
use Rattle.pl_base.specs.declared.operation.Op.TheVariants.{Define}
use Rattle.pl_catalog.specs.Objects.{object_called, table_named, tables_in, which_of}
use Rattle.pl_catalog.specs.Refusals.{refusal_beside}
use Rattle.pl_catalog.specs.declared.object.Object.{Object}
use Rattle.pl_catalog.specs.declared.object.Object.TheVariants as object
use Rattle.pl_catalog.specs.declared.object.TableDef.{TableDef}
use Rattle.pl_codec.specs.ReadBack.{OpReadsBack}
use Rattle.pl_codec.specs.Spelling.{ops_bytes}
use Rattle.pl_define.specs.Definition.{text_of}
use Rattle.pl_define.specs.declared.definition.Defined.{Defined}
use Rattle.pl_define.proofs.Done.{added_alike}
use Rattle.pl_journal.specs.Definitions.{behind, carried_out, redefined}
use Rattle.pl_journal.specs.Journal.{LeadsTo}
use Rattle.pl_journal.specs.Operation.{apply, apply_all, behind_it, empty}
use Rattle.pl_journal.specs.Sound.{AreMade, IsMade, IsSound, IsSoundTable}
use Rattle.pl_journal.specs.Whole.{content_ops, whole, whole_of}
use Rattle.pl_journal.specs.Written.{Writes}
use Rattle.pl_journal.proofs.Payload.{apply_all-append}
use Rattle.pl_journal.proofs.WholeTables.{content_last, filled}
use Rattle.pl_tables.specs.Named.{content_named, named, Named}
use Rattle.pl_tables.specs.Rows.{no_rows, Content}
use Rattle.pl_tree.specs.declared.command.Definition.{Definition}
use Rattle.pl_define.specs.pl_typing.Resolved.{Resolved}
use Rattle.pl_undo.specs.Database.{Database, database, keys_in, names_of, table_names, with_object}
use Rattle.pl_undo.specs.DatabaseLaws.{absent_content, whole_with}

-- ---- an object

-- a table is found by its name, where none before it has that
pub table_last : (t : TableDef) (os more : List Object) → object_called (which_of (object.Table t)) os ≡ None → table_named t.name (tables_in (os ++ object.Table t ∷ more)) ≡ Some t
table_last t [] more none = ap (λ (b : Bool). cond b (Some t) (table_named t.name (tables_in more))) ((bytes_decides t.name t.name).1 refl)
table_last t (object.Table u ∷ os) more none =
    (elim (pointwise nat_eq u.name t.name) as (λ (b : Bool). cond b (Some (object.Table u)) (object_called (which_of (object.Table t)) os) ≡ None → cond b (Some u) (table_named t.name (tables_in (os ++ object.Table t ∷ more))) ≡ Some t) [
      | true ↦ λ h. absurd (let f : Some (object.Table u) ≡ None = h in cc)
      | false ↦ λ h. table_last t os more h
    ]) none
table_last t (object.Routine r ∷ os) more none = table_last t os more none
table_last t (object.Trigger r ∷ os) more none = table_last t os more none

-- the text of an object makes it behind others, where none of them has its name
made_again : (o : Object) (os : List Object) (ts : List Named) → IsMade o → object_called (which_of o) os ≡ None → apply (Define (text_of o)) (database os ts) ≡ Some (with_object o (database os ts))
made_again o os ts made none =
    ap (λ (x : Option Definition). option_and_then (λ (definition : Definition). behind_it (redefined definition (text_of o) (database os ts))) x) made.read
    ∙ ap (λ (r : Resolved Defined). behind_it (carried_out r (database os ts))) (added_alike made.others os made.definition (text_of o) o made.made none)
    ∙ ap (λ (b : Bool). behind_it (cond b (Ok (behind (with_object o (database os ts)) None)) (Err FEATURE_NOT_SUPPORTED))) made.stored

-- ---- all of them

nil_cons : {A : Type 0} (x : A) (xs : List A) → (let l : List A = [] in l ≡ x ∷ xs) → ⊥
nil_cons x xs h = cc

cons_nil : {A : Type 0} (x : A) (xs : List A) → (let l : List A = x ∷ xs in l ≡ []) → ⊥
cons_nil x xs h = cc

same_head : {A : Type 0} (x y : A) (xs ys : List A) → (let l : List A = x ∷ xs in l ≡ y ∷ ys) → x ≡ y
same_head x y xs ys h = cc

same_tail : {A : Type 0} (x y : A) (xs ys : List A) → (let l : List A = x ∷ xs in l ≡ y ∷ ys) → xs ≡ ys
same_tail x y xs ys h = cc

-- what a table holds doesn't change its name
names_same : (ts : List Named) (name : List ℕ) (c c' : Content) → names_of (ts ++ named name c ∷ []) ≡ names_of (ts ++ named name c' ∷ [])
names_same ts name c c' = map-append (λ (t : Named). t.name) ts (named name c ∷ []) ∙ sym (map-append (λ (t : Named). t.name) ts (named name c' ∷ []))

module _
    (d : Database)
    (sound : (name : List ℕ) (table : TableDef) (c : Content) → table_named name (tables_in d.objects) ≡ Some table → content_named name d.tables ≡ Some c → IsSoundTable table c)
  where
    -- a table behind others, and what it holds
    one_table : (os more : List Object) (ts rest : List Named) (t : TableDef) (c : Content) → os ++ object.Table t ∷ more ≡ d.objects → ts ++ named t.name c ∷ rest ≡ d.tables
        → table_names os ≡ names_of ts → IsMade (object.Table t) → object_called (which_of (object.Table t)) os ≡ None
        → apply_all (whole_of (object.Table t ∷ more) d.tables) (database os ts) ≡ apply_all (whole_of more d.tables) (database (os ++ object.Table t ∷ []) (ts ++ named t.name c ∷ []))
    one_table os more ts rest t c all_objects all_tables names made free =
        ap (λ (o : Option Content). apply_all ((Define t.text ∷ content_ops t.name o) ++ whole_of more d.tables) (database os ts)) held
        ∙ ap (λ (o : Option Database). option_and_then (apply_all (content_ops t.name (Some c) ++ whole_of more d.tables)) o) (made_again (object.Table t) os ts made free)
        ∙ apply_all-append (content_ops t.name (Some c)) (whole_of more d.tables) (with_object (object.Table t) (database os ts)) (database (os ++ object.Table t ∷ []) (ts ++ named t.name c ∷ []))
        (filled (os ++ object.Table t ∷ []) ts t c (table_last t os [] free) none is_sound)
      where
        none : content_named t.name ts ≡ None
        none = absent_content t.name (database os ts) names (ap refusal_beside free)

        held : content_named t.name d.tables ≡ Some c
        held = ap (content_named t.name) (sym all_tables) ∙ content_last t.name ts rest c none

        is_sound : IsSoundTable t c
        is_sound = sound t.name t c (ap (λ (l : List Object). table_named t.name (tables_in l)) (sym all_objects) ∙ table_last t os more free) held

    each_object : (os more : List Object) (ts rest : List Named) → os ++ more ≡ d.objects → ts ++ rest ≡ d.tables → table_names os ≡ names_of ts → table_names more ≡ names_of rest → AreMade os more
        → apply_all (whole_of more d.tables) (database os ts) ≡ Some d
    each_object os [] ts [] all_objects all_tables names rest made =
        let objects : os ≡ d.objects = sym (append-nil os) ∙ all_objects in
        let tables : ts ≡ d.tables = sym (append-nil ts) ∙ all_tables in
        λ i. Some (database (objects i) (tables i))
    each_object os [] ts (n ∷ left) all_objects all_tables names rest made = absurd (nil_cons n.name (names_of left) rest)
    each_object os (object.Table t ∷ more) ts [] all_objects all_tables names rest made = absurd (cons_nil t.name (table_names more) rest)
    each_object os (object.Table t ∷ more) ts (n ∷ left) all_objects all_tables names rest made =
        let named_so : t.name ≡ n.name = same_head t.name n.name (table_names more) (names_of left) rest in
        let so : ts ++ named t.name n.content ∷ left ≡ d.tables = (λ i. ts ++ named (named_so i) n.content ∷ left) ∙ all_tables in
        one_table os more ts left t n.content all_objects so names made.0 made.1
        ∙ each_object (os ++ object.Table t ∷ []) more (ts ++ named t.name n.content ∷ []) left
        (append_assoc os (object.Table t ∷ []) more ∙ all_objects) (append_assoc ts (named t.name n.content ∷ []) left ∙ so)
        (whole_with (object.Table t) (database os ts) names ∙ names_same ts t.name (no_rows (keys_in t.rules)) n.content)
        (same_tail t.name n.name (table_names more) (names_of left) rest) made.2
    each_object os (object.Routine r ∷ more) ts left all_objects all_tables names rest made =
        ap (λ (o : Option Database). option_and_then (apply_all (whole_of more d.tables)) o) (made_again (object.Routine r) os ts made.0 made.1)
        ∙ each_object (os ++ object.Routine r ∷ []) more ts left (append_assoc os (object.Routine r ∷ []) more ∙ all_objects) all_tables (whole_with (object.Routine r) (database os ts) names) rest made.2
    each_object os (object.Trigger t ∷ more) ts left all_objects all_tables names rest made =
        ap (λ (o : Option Database). option_and_then (apply_all (whole_of more d.tables)) o) (made_again (object.Trigger t) os ts made.0 made.1)
        ∙ each_object (os ++ object.Trigger t ∷ []) more ts left (append_assoc os (object.Trigger t ∷ []) more ∙ all_objects) all_tables (whole_with (object.Trigger t) (database os ts) names) rest made.2

-- they lead from no object to all
pub leads : (d : Database) → IsSound d → apply_all (whole d) empty ≡ Some d
leads d sound = each_object d sound.tables [] d.objects [] d.tables refl refl refl sound.whole sound.objects

-- so do the bytes to which they are written
pub written_leads : (d : Database) → IsSound d → (os : List Object) (ts : List Named) (start now payload : List ℕ) → os ≡ d.objects → ts ≡ d.tables → start ≡ [] → payload ≡ now
    → Writes (whole_of os ts) start now → LeadsTo payload empty d
written_leads d sound os ts start now payload objects tables none same is =
    record {
      ops = whole d;
      spelled = same ∙ is.spelled ∙ (λ i. none i ++ ops_bytes (whole_of (objects i) (tables i)));
      back = subst (AllByRecursion OpReadsBack) (λ i. whole_of (objects i) (tables i)) is.back;
      leads = leads d sound;
    }
