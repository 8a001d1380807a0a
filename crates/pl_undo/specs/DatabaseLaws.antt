-- Proofs about databases, for whoever changes one.
use Rattle.std.proofs.Common.{◌≡◌, ◌++◌, ◌∙◌, ℕ, List, [], ◌∷◌, Bool, true, false, cond, Option, Some, None, nat_eq, refl, sym, ap}
use Rattle.std.specs.Prelude.{IsSome}
use Rattle.std.specs.Cmp.Lexicographic.{bytes_decides, pointwise}
use Rattle.std.proofs.lemmas.List.{map-append}
use Rattle.pl_catalog.specs.declared.object.Object.{Object}
use Rattle.pl_catalog.specs.declared.object.Object.TheVariants as object
use Rattle.pl_catalog.specs.declared.object.TableDef.{TableDef}
use Rattle.pl_catalog.specs.declared.object.Which.{Which}
use Rattle.pl_catalog.specs.declared.object.Which.TheVariants as which
use Rattle.pl_catalog.specs.Objects.{exchanged, is_called, object_called, table_named, tables_in, which_of, without}
use Rattle.pl_catalog.specs.Refusals.{refusal_beside, refusal_of}
use Rattle.pl_tables.specs.Named.{content_named, named, on_table, without_table, Named}
use Rattle.pl_tables.specs.Rows.{no_rows, Content}
use Rattle.pl_undo.specs.Contents.{rules_in, with_content_of}
use Rattle.pl_undo.specs.Database.{keys_in, names_of, on_rows, table_names, with_content, with_exchanged, with_object, without_object, Database, IsWhole}

-- one of the names is this one
abbrev has : List ℕ → List (List ℕ) → Bool
has name [] = false
has name (n ∷ ns) = cond (pointwise nat_eq n name) true (has name ns)

-- the first name of these is taken out
abbrev less : List ℕ → List (List ℕ) → List (List ℕ)
less name [] = []
less name (n ∷ ns) = cond (pointwise nat_eq n name) ns (n ∷ less name ns)

same_name : (name : List ℕ) → pointwise nat_eq name name ≡ true
same_name name = (bytes_decides name name).1 refl

-- names among the tables
module _ (name : List ℕ) where
  no_content : (ts : List Named) → has name (names_of ts) ≡ false → content_named name ts ≡ None
  no_content [] is = refl
  no_content (t ∷ ts) is =
      (elim (pointwise nat_eq t.name name) as (λ (b : Bool). cond b true (has name (names_of ts)) ≡ false → cond b (Some t.content) (content_named name ts) ≡ None) [
        | true ↦ λ e. absurd (let f : (let b : Bool = true in b ≡ false) = e in cc)
        | false ↦ λ e. no_content ts e
      ]) is

  some_content : (ts : List Named) → has name (names_of ts) ≡ true → IsSome (content_named name ts)
  some_content [] is = absurd cc
  some_content (t ∷ ts) is =
      (elim (pointwise nat_eq t.name name) as (λ (b : Bool). cond b true (has name (names_of ts)) ≡ true → IsSome (cond b (Some t.content) (content_named name ts))) [
        | true ↦ λ e. refl
        | false ↦ λ e. some_content ts e
      ]) is

  names_on : (change : Content → Content) (ts : List Named) → names_of (on_table name change ts) ≡ names_of ts
  names_on change [] = refl
  names_on change (t ∷ ts) =
      elim (pointwise nat_eq t.name name) as (λ (b : Bool). names_of (cond b (named t.name (change t.content) ∷ ts) (t ∷ on_table name change ts)) ≡ t.name ∷ names_of ts) [
        | true ↦ refl
        | false ↦ ap (λ (ns : List (List ℕ)). t.name ∷ ns) (names_on change ts)
      ]

  names_less : (ts : List Named) → names_of (without_table name ts) ≡ less name (names_of ts)
  names_less [] = refl
  names_less (t ∷ ts) =
      elim (pointwise nat_eq t.name name) as (λ (b : Bool). names_of (cond b ts (t ∷ without_table name ts)) ≡ cond b (names_of ts) (t.name ∷ less name (names_of ts))) [
        | true ↦ refl
        | false ↦ ap (λ (ns : List (List ℕ)). t.name ∷ ns) (names_less ts)
      ]

  -- names among the objects
  no_object : (os : List Object) → object_called (which.Table name) os ≡ None → has name (table_names os) ≡ false
  no_object [] is = refl
  no_object (object.Table t ∷ os) is =
      (elim (pointwise nat_eq t.name name) as (λ (b : Bool). cond b (Some (object.Table t)) (object_called (which.Table name) os) ≡ None → cond b true (has name (table_names os)) ≡ false) [
        | true ↦ λ e. absurd (let f : Some (object.Table t) ≡ None = e in cc)
        | false ↦ λ e. no_object os e
      ]) is
  no_object (object.Routine r ∷ os) is = no_object os is
  no_object (object.Trigger t ∷ os) is = no_object os is

  some_object : (os : List Object) (o : Object) → object_called (which.Table name) os ≡ Some o → has name (table_names os) ≡ true
  some_object [] o is = absurd cc
  some_object (object.Table t ∷ os) o is =
      (elim (pointwise nat_eq t.name name) as (λ (b : Bool). cond b (Some (object.Table t)) (object_called (which.Table name) os) ≡ Some o → cond b true (has name (table_names os)) ≡ true) [
        | true ↦ λ e. refl
        | false ↦ λ e. some_object os o e
      ]) is
  some_object (object.Routine r ∷ os) o is = some_object os o is
  some_object (object.Trigger t ∷ os) o is = some_object os o is

  some_table : (os : List Object) → IsSome (table_named name (tables_in os)) → has name (table_names os) ≡ true
  some_table [] is = absurd (let f : (let b : Bool = false in b ≡ true) = is in cc)
  some_table (object.Table t ∷ os) is =
      (elim (pointwise nat_eq t.name name) as (λ (b : Bool). IsSome (cond b (Some t) (table_named name (tables_in os))) → cond b true (has name (table_names os)) ≡ true) [
        | true ↦ λ e. refl
        | false ↦ λ e. some_table os e
      ]) is
  some_table (object.Routine r ∷ os) is = some_table os is
  some_table (object.Trigger t ∷ os) is = some_table os is

  objects_less : (os : List Object) → table_names (without (which.Table name) os) ≡ less name (table_names os)
  objects_less [] = refl
  objects_less (object.Table t ∷ os) =
      elim (pointwise nat_eq t.name name) as (λ (b : Bool). table_names (cond b os (object.Table t ∷ without (which.Table name) os)) ≡ cond b (table_names os) (t.name ∷ less name (table_names os))) [
        | true ↦ refl
        | false ↦ ap (λ (ns : List (List ℕ)). t.name ∷ ns) (objects_less os)
      ]
  objects_less (object.Routine r ∷ os) = objects_less os
  objects_less (object.Trigger t ∷ os) = objects_less os

  -- the newest table is found by its name, where none had it
  newest : (os : List Object) (t : TableDef) → t.name ≡ name → object_called (which.Table name) os ≡ None → table_named name (tables_in (os ++ object.Table t ∷ [])) ≡ Some t
  newest [] t e is = ap (λ (b : Bool). cond b (Some t) None) (ap (λ (n : List ℕ). pointwise nat_eq n name) e ∙ same_name name)
  newest (object.Table u ∷ os) t e is =
      (elim (pointwise nat_eq u.name name) as (λ (b : Bool). cond b (Some (object.Table u)) (object_called (which.Table name) os) ≡ None → cond b (Some u) (table_named name (tables_in (os ++ object.Table t ∷ []))) ≡ Some t) [
        | true ↦ λ f. absurd (let g : Some (object.Table u) ≡ None = f in cc)
        | false ↦ λ f. newest os t e f
      ]) is
  newest (object.Routine r ∷ os) t e is = newest os t e is
  newest (object.Trigger r ∷ os) t e is = newest os t e is

-- what is no table takes no table out
others_less : (w : Which) → ((t : TableDef) → is_called w (object.Table t) ≡ false) → (os : List Object) → table_names (without w os) ≡ table_names os
others_less w none [] = refl
others_less w none (object.Table t ∷ os) =
    ap (λ (b : Bool). table_names (cond b os (object.Table t ∷ without w os))) (none t) ∙ ap (λ (ns : List (List ℕ)). t.name ∷ ns) (others_less w none os)
others_less w none (object.Routine r ∷ os) =
    elim (is_called w (object.Routine r)) as (λ (b : Bool). table_names (cond b os (object.Routine r ∷ without w os)) ≡ table_names os) [
      | true ↦ refl
      | false ↦ others_less w none os
    ]
others_less w none (object.Trigger t ∷ os) =
    elim (is_called w (object.Trigger t)) as (λ (b : Bool). table_names (cond b os (object.Trigger t ∷ without w os)) ≡ table_names os) [
      | true ↦ refl
      | false ↦ others_less w none os
    ]

-- what is no table takes the place of no table
others_exchanged : (w : Which) (o : Object) → ((t : TableDef) → is_called w (object.Table t) ≡ false) → ((os : List Object) → table_names (o ∷ os) ≡ table_names os) → (os : List Object) → table_names (exchanged w o os) ≡ table_names os
others_exchanged w o none nameless [] = refl
others_exchanged w o none nameless (object.Table t ∷ os) =
    ap (λ (b : Bool). table_names (cond b (o ∷ os) (object.Table t ∷ exchanged w o os))) (none t) ∙ ap (λ (ns : List (List ℕ)). t.name ∷ ns) (others_exchanged w o none nameless os)
others_exchanged w o none nameless (object.Routine r ∷ os) =
    elim (is_called w (object.Routine r)) as (λ (b : Bool). table_names (cond b (o ∷ os) (object.Routine r ∷ exchanged w o os)) ≡ table_names os) [
      | true ↦ nameless os
      | false ↦ others_exchanged w o none nameless os
    ]
others_exchanged w o none nameless (object.Trigger t ∷ os) =
    elim (is_called w (object.Trigger t)) as (λ (b : Bool). table_names (cond b (o ∷ os) (object.Trigger t ∷ exchanged w o os)) ≡ table_names os) [
      | true ↦ nameless os
      | false ↦ others_exchanged w o none nameless os
    ]

-- a table takes the place of one of its name
tables_exchanged : (t : TableDef) (os : List Object) → table_names (exchanged (which.Table t.name) (object.Table t) os) ≡ table_names os
tables_exchanged t [] = refl
tables_exchanged t (object.Table u ∷ os) =
    (elim (pointwise nat_eq u.name t.name) as (λ (b : Bool). pointwise nat_eq u.name t.name ≡ b → table_names (cond b (object.Table t ∷ os) (object.Table u ∷ exchanged (which.Table t.name) (object.Table t) os)) ≡ u.name ∷ table_names os) [
      | true ↦ λ e. ap (λ (n : List ℕ). n ∷ table_names os) (sym ((bytes_decides u.name t.name).0 e))
      | false ↦ λ e. ap (λ (ns : List (List ℕ)). u.name ∷ ns) (tables_exchanged t os)
    ]) refl
tables_exchanged t (object.Routine r ∷ os) = tables_exchanged t os
tables_exchanged t (object.Trigger r ∷ os) = tables_exchanged t os

names_more : (os : List Object) (o : Object) → table_names (os ++ o ∷ []) ≡ table_names os ++ table_names (o ∷ [])
names_more [] o = refl
names_more (object.Table t ∷ os) o = ap (λ (ns : List (List ℕ)). t.name ∷ ns) (names_more os o)
names_more (object.Routine r ∷ os) o = names_more os o
names_more (object.Trigger t ∷ os) o = names_more os o

nothing_more : (ns : List (List ℕ)) → ns ++ [] ≡ ns
nothing_more [] = refl
nothing_more (n ∷ ns) = ap (λ (l : List (List ℕ)). n ∷ l) (nothing_more ns)

-- what changes leave is whole
pub whole_with : (o : Object) (d : Database) → IsWhole d → IsWhole (with_object o d)
whole_with (object.Table t) d is =
    names_more d.objects (object.Table t)
    ∙ (ap (λ (ns : List (List ℕ)). ns ++ t.name ∷ []) is ∙ sym (map-append (λ (n : Named). n.name) d.tables (named t.name (no_rows (keys_in t.rules)) ∷ [])))
whole_with (object.Routine r) d is = names_more d.objects (object.Routine r) ∙ (nothing_more (table_names d.objects) ∙ is)
whole_with (object.Trigger t) d is = names_more d.objects (object.Trigger t) ∙ (nothing_more (table_names d.objects) ∙ is)

pub whole_without : (w : Which) (d : Database) → IsWhole d → IsWhole (without_object w d)
whole_without (which.Table name) d is = objects_less name d.objects ∙ (ap (less name) is ∙ sym (names_less name d.tables))
whole_without (which.Routine name) d is = others_less (which.Routine name) (λ t. refl) d.objects ∙ is
whole_without (which.Trigger table name) d is = others_less (which.Trigger table name) (λ t. refl) d.objects ∙ is

pub whole_exchanged : (o : Object) (d : Database) → IsWhole d → IsWhole (with_exchanged o d)
whole_exchanged (object.Table t) d is = tables_exchanged t d.objects ∙ is
whole_exchanged (object.Routine r) d is = others_exchanged (which.Routine r.name) (object.Routine r) (λ t. refl) (λ os. refl) d.objects ∙ is
whole_exchanged (object.Trigger t) d is = others_exchanged (which.Trigger t.table t.name) (object.Trigger t) (λ t. refl) (λ os. refl) d.objects ∙ is

pub whole_on : (name : List ℕ) (change : Content → Content) (d : Database) → IsWhole d → IsWhole (on_rows name change d)
whole_on name change d is = is ∙ sym (names_on name change d.tables)

-- the table of the catalogue is among the tables
pub content_of_table : (name : List ℕ) (d : Database) → IsWhole d → IsSome (table_named name (tables_in d.objects)) → IsSome (content_named name d.tables)
content_of_table name d is there = some_content name d.tables (sym (ap (has name) is) ∙ some_table name d.objects there)

not_beside : (o : Option Object) → refusal_beside o ≡ None → o ≡ None
not_beside None is = refl
not_beside (Some o) is = absurd cc

pub absent_content : (name : List ℕ) (d : Database) → IsWhole d → refusal_beside (object_called (which.Table name) d.objects) ≡ None → content_named name d.tables ≡ None
absent_content name d is free = no_content name d.tables (sym (ap (has name) is) ∙ no_object name d.objects (not_beside (object_called (which.Table name) d.objects) free))

found_object : (o : Option Object) (dependent : Option (List ℕ)) → refusal_of o dependent ≡ None → (p : Object) × (o ≡ Some p)
found_object None dependent is = absurd cc
found_object (Some p) dependent is = (p, refl)

pub there_content : (name : List ℕ) (d : Database) (dependent : Option (List ℕ)) → IsWhole d → refusal_of (object_called (which.Table name) d.objects) dependent ≡ None → IsSome (content_named name d.tables)
there_content name d dependent is free =
    let o = found_object (object_called (which.Table name) d.objects) dependent free in
    some_content name d.tables (sym (ap (has name) is) ∙ some_object name d.objects o.0 o.1)

-- the code adds what a CREATE says
pub content_added : (o : Object) (os : List Object) (ts : List Named) → refusal_beside (object_called (which_of o) os) ≡ None → with_content_of (which_of o) (os ++ o ∷ []) ts ≡ with_content o ts
content_added (object.Table t) os ts free =
    ap (λ (found : Option TableDef). ts ++ named t.name (no_rows (keys_in (rules_in found))) ∷ []) (newest t.name os t refl (not_beside (object_called (which.Table t.name) os) free))
content_added (object.Routine r) os ts free = refl
content_added (object.Trigger t) os ts free = refl
