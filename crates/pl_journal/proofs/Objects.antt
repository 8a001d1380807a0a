-- Objects that are added, replaced and dropped.
use Rattle.std.proofs.Common.{◌≡◌, ℕ, List, [], ◌∷◌, ◌++◌, cond, Bool, true, false, Option, Some, None, refl, sym, ◌∙◌, ap, subst, append_assoc}
use Rattle.std.specs.Prelude.{option_map}
use Rattle.std.proofs.lemmas.List.{append-nil}
use Rattle.pl_catalog.specs.declared.object.Object.{Object}
use Rattle.pl_catalog.specs.declared.object.Object.TheVariants as object
use Rattle.pl_catalog.specs.declared.object.Routine.{Routine}
use Rattle.pl_catalog.specs.declared.object.TableDef.{TableDef}
use Rattle.pl_catalog.specs.declared.object.Which.{Which}
use Rattle.pl_catalog.specs.declared.object.Which.TheVariants as which
use Rattle.pl_catalog.specs.Objects.{exchanged, is_called, is_same, object_called, table_named, tables_in, which_of, without}
use Rattle.pl_catalog.specs.Refusals.{refusal_beside}
use Rattle.pl_journal.specs.Sound.{AreMade, IsMade}
use Rattle.pl_journal.proofs.OneTable.{same_text}
use Rattle.pl_journal.proofs.Truths.{none_some, some_is}
use Rattle.pl_tables.specs.Named.{Named, content_named, without_table}
use Rattle.pl_tables.specs.Rows.{Content}
use Rattle.pl_undo.specs.Database.{Database, IsWhole}
use Rattle.pl_undo.specs.DatabaseLaws.{absent_content}

-- ---- what is found by a name

pub called : (name : List ℕ) (os : List Object) → object_called (which.Table name) os ≡ option_map object.Table (table_named name (tables_in os))
called name [] = refl
called name (object.Table t ∷ os) =
    elim (is_same t.name name) as (λ (b : Bool). cond b (Some (object.Table t)) (object_called (which.Table name) os) ≡ option_map object.Table (cond b (Some t) (table_named name (tables_in os)))) [
      | true ↦ refl
      | false ↦ called name os
    ]
called name (object.Routine r ∷ os) = called name os
called name (object.Trigger t ∷ os) = called name os

-- what is there in one of two lists, and in neither
none_front : (w : Which) (xs ys : List Object) → object_called w (xs ++ ys) ≡ None → object_called w xs ≡ None
none_front w [] ys is = refl
none_front w (x ∷ xs) ys is =
    (elim (is_called w x) as (λ (b : Bool). cond b (Some x) (object_called w (xs ++ ys)) ≡ None → cond b (Some x) (object_called w xs) ≡ None) [
      | true ↦ λ h. h
      | false ↦ λ h. none_front w xs ys h
    ]) is

none_back : (w : Which) (xs ys : List Object) → object_called w (xs ++ ys) ≡ None → object_called w ys ≡ None
none_back w [] ys is = is
none_back w (x ∷ xs) ys is =
    (elim (is_called w x) as (λ (b : Bool). cond b (Some x) (object_called w (xs ++ ys)) ≡ None → object_called w ys ≡ None) [
      | true ↦ λ h. absurd (none_some x (sym h))
      | false ↦ λ h. none_back w xs ys h
    ]) is

none_both : (w : Which) (xs ys : List Object) → object_called w xs ≡ None → object_called w ys ≡ None → object_called w (xs ++ ys) ≡ None
none_both w [] ys front back = back
none_both w (x ∷ xs) ys front back =
    (elim (is_called w x) as (λ (b : Bool). cond b (Some x) (object_called w xs) ≡ None → cond b (Some x) (object_called w (xs ++ ys)) ≡ None) [
      | true ↦ λ h. h
      | false ↦ λ h. none_both w xs ys h back
    ]) front

there_front : (w : Which) (xs ys : List Object) (o : Object) → object_called w xs ≡ Some o → object_called w (xs ++ ys) ≡ Some o
there_front w [] ys o is = absurd (none_some o is)
there_front w (x ∷ xs) ys o is =
    (elim (is_called w x) as (λ (b : Bool). cond b (Some x) (object_called w xs) ≡ Some o → cond b (Some x) (object_called w (xs ++ ys)) ≡ Some o) [
      | true ↦ λ h. h
      | false ↦ λ h. there_front w xs ys o h
    ]) is

-- ---- each object is made, and has a name of its own

pub made_more : (before os : List Object) (o : Object) → AreMade before os → IsMade o → object_called (which_of o) (before ++ os) ≡ None → AreMade before (os ++ o ∷ [])
made_more before [] o are made none = (made, ap (λ (l : List Object). object_called (which_of o) l) (sym (append-nil before)) ∙ none, tt)
made_more before (p ∷ os) o are made none =
    (are.0, are.1, made_more (before ++ p ∷ []) os o are.2 made (ap (λ (l : List Object). object_called (which_of o) l) (append_assoc before (p ∷ []) os) ∙ none))

-- the same behind fewer
fewer : (more less os : List Object) → ((w : Which) → object_called w more ≡ None → object_called w less ≡ None) → AreMade more os → AreMade less os
fewer more less [] so are = tt
fewer more less (o ∷ os) so are =
    (are.0, so (which_of o) are.1, fewer (more ++ o ∷ []) (less ++ o ∷ []) os (λ w none. none_both w less (o ∷ []) (so w (none_front w more (o ∷ []) none)) (none_back w more (o ∷ []) none)) are.2)

pub made_less : (w : Which) (before os : List Object) → AreMade before os → AreMade before (without w os)
made_less w before [] are = tt
made_less w before (o ∷ os) are =
    elim (is_called w o) as (λ (b : Bool). AreMade before (cond b os (o ∷ without w os))) [
      | true ↦ fewer (before ++ o ∷ []) before os (λ v none. none_front v before (o ∷ []) none) are.2
      | false ↦ (are.0, are.1, made_less w (before ++ o ∷ []) os are.2)
    ]

-- a routine in the place of the one of its name
module _ (q r : Routine) (same : q.name ≡ r.name) where
  called_alike : (w : Which) → is_called w (object.Routine q) ≡ is_called w (object.Routine r)
  called_alike (which.Table name) = refl
  called_alike (which.Routine name) = ap (λ (n : List ℕ). is_same n name) same
  called_alike (which.Trigger table name) = refl

  none_alike : (w : Which) → object_called w (object.Routine q ∷ []) ≡ None → object_called w (object.Routine r ∷ []) ≡ None
  none_alike w none =
      (elim (is_called w (object.Routine q)) as (λ (b : Bool). is_called w (object.Routine q) ≡ b → (let o : Option Object = cond b (Some (object.Routine q)) None in o ≡ None) → object_called w (object.Routine r ∷ []) ≡ None) [
        | true ↦ λ e h. absurd (none_some (object.Routine q) (sym h))
        | false ↦ λ e h. ap (λ (b : Bool). let o : Option Object = cond b (Some (object.Routine r)) None in o) (sym (called_alike w) ∙ e)
      ]) refl none

  behind_it : (before os : List Object) → AreMade (before ++ object.Routine q ∷ []) os → AreMade (before ++ object.Routine r ∷ []) os
  behind_it before os are =
      fewer (before ++ object.Routine q ∷ []) (before ++ object.Routine r ∷ []) os
      (λ w none. none_both w before (object.Routine r ∷ []) (none_front w before (object.Routine q ∷ []) none) (none_alike w (none_back w before (object.Routine q ∷ []) none))) are

pub made_exchanged : (r : Routine) (before os : List Object) → IsMade (object.Routine r) → AreMade before os → AreMade before (exchanged (which.Routine r.name) (object.Routine r) os)
made_exchanged r before [] made are = tt
made_exchanged r before (object.Routine q ∷ os) made are =
    (elim (is_same q.name r.name) as (λ (b : Bool). is_same q.name r.name ≡ b → AreMade before (cond b (object.Routine r ∷ os) (object.Routine q ∷ exchanged (which.Routine r.name) (object.Routine r) os))) [
      | true ↦ λ e.
          let same : q.name ≡ r.name = same_text q.name r.name e in
          (made, ap (λ (n : List ℕ). object_called (which.Routine n) before) (sym same) ∙ are.1, behind_it q r same before os are.2)
      | false ↦ λ e. (are.0, are.1, made_exchanged r (before ++ object.Routine q ∷ []) os made are.2)
    ]) refl
made_exchanged r before (object.Table t ∷ os) made are = (are.0, are.1, made_exchanged r (before ++ object.Table t ∷ []) os made are.2)
made_exchanged r before (object.Trigger t ∷ os) made are = (are.0, are.1, made_exchanged r (before ++ object.Trigger t ∷ []) os made are.2)

-- a table among them
pub made_table : (name : List ℕ) (before os : List Object) (t : TableDef) → AreMade before os → table_named name (tables_in os) ≡ Some t → IsMade (object.Table t) × (t.name ≡ name)
made_table name before [] t are is = absurd (none_some t is)
made_table name before (object.Table u ∷ os) t are is =
    (elim (is_same u.name name) as (λ (b : Bool). is_same u.name name ≡ b → cond b (Some u) (table_named name (tables_in os)) ≡ Some t → IsMade (object.Table t) × (t.name ≡ name)) [
      | true ↦ λ e h.
          let same : u ≡ t = some_is u t h in
          (subst (λ (x : TableDef). IsMade (object.Table x)) same are.0, ap (λ (x : TableDef). x.name) (sym same) ∙ same_text u.name name e)
      | false ↦ λ e h. made_table name (before ++ object.Table u ∷ []) os t are.2 h
    ]) refl is
made_table name before (object.Routine r ∷ os) t are is = made_table name (before ++ object.Routine r ∷ []) os t are.2 is
made_table name before (object.Trigger r ∷ os) t are is = made_table name (before ++ object.Trigger r ∷ []) os t are.2 is

-- no later one has the name of an earlier one
none_later : (name : List ℕ) (before os : List Object) (o : Object) → AreMade before os → object_called (which.Table name) before ≡ Some o → table_named name (tables_in os) ≡ None
none_later name before [] o are is = refl
none_later name before (object.Table t ∷ os) o are is =
    (elim (is_same t.name name) as (λ (b : Bool). is_same t.name name ≡ b → cond b (Some t) (table_named name (tables_in os)) ≡ None) [
      | true ↦ λ e.
          absurd (none_some o (sym are.1 ∙ (ap (λ (n : List ℕ). object_called (which.Table n) before) (same_text t.name name e) ∙ is)))
      | false ↦ λ e. none_later name (before ++ object.Table t ∷ []) os o are.2 (there_front (which.Table name) before (object.Table t ∷ []) o is)
    ]) refl
none_later name before (object.Routine r ∷ os) o are is = none_later name (before ++ object.Routine r ∷ []) os o are.2 (there_front (which.Table name) before (object.Routine r ∷ []) o is)
none_later name before (object.Trigger r ∷ os) o are is = none_later name (before ++ object.Trigger r ∷ []) os o are.2 (there_front (which.Table name) before (object.Trigger r ∷ []) o is)

last_called : (name : List ℕ) (before : List Object) (t : TableDef) → is_same t.name name ≡ true → object_called (which.Table name) before ≡ None → object_called (which.Table name) (before ++ object.Table t ∷ []) ≡ Some (object.Table t)
last_called name [] t is none = ap (λ (b : Bool). let o : Option Object = cond b (Some (object.Table t)) None in o) is
last_called name (o ∷ os) t is none =
    (elim (is_called (which.Table name) o) as (λ (b : Bool). cond b (Some o) (object_called (which.Table name) os) ≡ None → cond b (Some o) (object_called (which.Table name) (os ++ object.Table t ∷ [])) ≡ Some (object.Table t)) [
      | true ↦ λ h. absurd (none_some o (sym h))
      | false ↦ λ h. last_called name os t is h
    ]) none

-- ---- tables without one

-- the one of this name isn't there
pub gone : (name : List ℕ) (before os : List Object) → AreMade before os → table_named name (tables_in (without (which.Table name) os)) ≡ None
gone name before [] are = refl
gone name before (object.Table t ∷ os) are =
    (elim (is_same t.name name) as (λ (b : Bool). is_same t.name name ≡ b → table_named name (tables_in (cond b os (object.Table t ∷ without (which.Table name) os))) ≡ None) [
      | true ↦ λ e.
          let free : object_called (which.Table name) before ≡ None = ap (λ (n : List ℕ). object_called (which.Table n) before) (sym (same_text t.name name e)) ∙ are.1 in
          none_later name (before ++ object.Table t ∷ []) os (object.Table t) are.2 (last_called name before t e free)
      | false ↦ λ e. ap (λ (b : Bool). cond b (Some t) (table_named name (tables_in (without (which.Table name) os)))) e ∙ gone name (before ++ object.Table t ∷ []) os are.2
    ]) refl
gone name before (object.Routine r ∷ os) are = gone name (before ++ object.Routine r ∷ []) os are.2
gone name before (object.Trigger r ∷ os) are = gone name (before ++ object.Trigger r ∷ []) os are.2

module _ (dropped name : List ℕ) (differs : is_same dropped name ≡ false) where
  away : (other : List ℕ) → is_same other dropped ≡ true → is_same other name ≡ false
  away other is = ap (λ (n : List ℕ). is_same n name) (same_text other dropped is) ∙ differs

  -- the others are
  pub table_stays : (os : List Object) → table_named name (tables_in (without (which.Table dropped) os)) ≡ table_named name (tables_in os)
  table_stays [] = refl
  table_stays (object.Table t ∷ os) =
      (elim (is_same t.name dropped) as (λ (b : Bool). is_same t.name dropped ≡ b → table_named name (tables_in (cond b os (object.Table t ∷ without (which.Table dropped) os))) ≡ cond (is_same t.name name) (Some t) (table_named name (tables_in os))) [
        | true ↦ λ e. sym (ap (λ (b : Bool). cond b (Some t) (table_named name (tables_in os))) (away t.name e))
        | false ↦ λ e. ap (λ (o : Option TableDef). cond (is_same t.name name) (Some t) o) (table_stays os)
      ]) refl
  table_stays (object.Routine r ∷ os) = table_stays os
  table_stays (object.Trigger r ∷ os) = table_stays os

  pub content_stays : (ts : List Named) → content_named name (without_table dropped ts) ≡ content_named name ts
  content_stays [] = refl
  content_stays (t ∷ ts) =
      (elim (is_same t.name dropped) as (λ (b : Bool). is_same t.name dropped ≡ b → content_named name (cond b ts (t ∷ without_table dropped ts)) ≡ cond (is_same t.name name) (Some t.content) (content_named name ts)) [
        | true ↦ λ e. sym (ap (λ (b : Bool). cond b (Some t.content) (content_named name ts)) (away t.name e))
        | false ↦ λ e. ap (λ (o : Option Content). cond (is_same t.name name) (Some t.content) o) (content_stays ts)
      ]) refl

-- what is no table takes no table out
pub others_stay : (w : Which) → ((t : TableDef) → is_called w (object.Table t) ≡ false) → (os : List Object) → tables_in (without w os) ≡ tables_in os
others_stay w none [] = refl
others_stay w none (object.Table t ∷ os) =
    ap (λ (b : Bool). tables_in (cond b os (object.Table t ∷ without w os))) (none t) ∙ ap (λ (ts : List TableDef). t ∷ ts) (others_stay w none os)
others_stay w none (object.Routine r ∷ os) =
    elim (is_called w (object.Routine r)) as (λ (b : Bool). tables_in (cond b os (object.Routine r ∷ without w os)) ≡ tables_in os) [
      | true ↦ refl
      | false ↦ others_stay w none os
    ]
others_stay w none (object.Trigger r ∷ os) =
    elim (is_called w (object.Trigger r)) as (λ (b : Bool). tables_in (cond b os (object.Trigger r ∷ without w os)) ≡ tables_in os) [
      | true ↦ refl
      | false ↦ others_stay w none os
    ]

pub exchanged_stay : (r : Routine) (os : List Object) → tables_in (exchanged (which.Routine r.name) (object.Routine r) os) ≡ tables_in os
exchanged_stay r [] = refl
exchanged_stay r (object.Table t ∷ os) = ap (λ (ts : List TableDef). t ∷ ts) (exchanged_stay r os)
exchanged_stay r (object.Routine q ∷ os) =
    elim (is_same q.name r.name) as (λ (b : Bool). tables_in (cond b (object.Routine r ∷ os) (object.Routine q ∷ exchanged (which.Routine r.name) (object.Routine r) os)) ≡ tables_in os) [
      | true ↦ refl
      | false ↦ exchanged_stay r os
    ]
exchanged_stay r (object.Trigger t ∷ os) = exchanged_stay r os

-- nor does it add one
pub tables_alone : (o : Object) → tables_in (o ∷ []) ≡ [] → (os : List Object) → tables_in (os ++ o ∷ []) ≡ tables_in os
tables_alone o none [] = none
tables_alone o none (object.Table t ∷ os) = ap (λ (ts : List TableDef). t ∷ ts) (tables_alone o none os)
tables_alone o none (object.Routine r ∷ os) = tables_alone o none os
tables_alone o none (object.Trigger t ∷ os) = tables_alone o none os

-- ---- tables with one more

pub tables_more : (os : List Object) (t : TableDef) → tables_in (os ++ object.Table t ∷ []) ≡ tables_in os ++ t ∷ []
tables_more [] t = refl
tables_more (object.Table u ∷ os) t = ap (λ (ts : List TableDef). u ∷ ts) (tables_more os t)
tables_more (object.Routine r ∷ os) t = tables_more os t
tables_more (object.Trigger r ∷ os) t = tables_more os t

pub table_before : (name : List ℕ) (ts : List TableDef) (t found : TableDef) → table_named name ts ≡ Some found → table_named name (ts ++ t ∷ []) ≡ Some found
table_before name [] t found is = absurd (none_some found is)
table_before name (u ∷ ts) t found is =
    (elim (is_same u.name name) as (λ (b : Bool). cond b (Some u) (table_named name ts) ≡ Some found → cond b (Some u) (table_named name (ts ++ t ∷ [])) ≡ Some found) [
      | true ↦ λ h. h
      | false ↦ λ h. table_before name ts t found h
    ]) is

pub table_last : (name : List ℕ) (ts : List TableDef) (t : TableDef) → table_named name ts ≡ None → table_named name (ts ++ t ∷ []) ≡ table_named name (t ∷ [])
table_last name [] t is = refl
table_last name (u ∷ ts) t is =
    (elim (is_same u.name name) as (λ (b : Bool). cond b (Some u) (table_named name ts) ≡ None → cond b (Some u) (table_named name (ts ++ t ∷ [])) ≡ table_named name (t ∷ [])) [
      | true ↦ λ h. absurd (none_some u (sym h))
      | false ↦ λ h. table_last name ts t h
    ]) is

pub content_before : (name : List ℕ) (ts : List Named) (t : Named) (found : Content) → content_named name ts ≡ Some found → content_named name (ts ++ t ∷ []) ≡ Some found
content_before name [] t found is = absurd (none_some found is)
content_before name (u ∷ ts) t found is =
    (elim (is_same u.name name) as (λ (b : Bool). cond b (Some u.content) (content_named name ts) ≡ Some found → cond b (Some u.content) (content_named name (ts ++ t ∷ [])) ≡ Some found) [
      | true ↦ λ h. h
      | false ↦ λ h. content_before name ts t found h
    ]) is

pub content_last : (name : List ℕ) (ts : List Named) (t : Named) → content_named name ts ≡ None → content_named name (ts ++ t ∷ []) ≡ content_named name (t ∷ [])
content_last name [] t is = refl
content_last name (u ∷ ts) t is =
    (elim (is_same u.name name) as (λ (b : Bool). cond b (Some u.content) (content_named name ts) ≡ None → cond b (Some u.content) (content_named name (ts ++ t ∷ [])) ≡ content_named name (t ∷ [])) [
      | true ↦ λ h. absurd (none_some u.content (sym h))
      | false ↦ λ h. content_last name ts t h
    ]) is

-- ---- tables of the catalogue, and what they hold

-- what the catalogue hasn't holds nothing
pub no_content : (name : List ℕ) (d : Database) → IsWhole d → table_named name (tables_in d.objects) ≡ None → content_named name d.tables ≡ None
no_content name d whole none =
    absent_content name d whole (ap (λ (o : Option Object). refusal_beside o) (called name d.objects ∙ ap (λ (o : Option TableDef). option_map object.Table o) none))

-- so the table of what is held is there
pub table_of_content : (name : List ℕ) (d : Database) → IsWhole d → (c : Content) → content_named name d.tables ≡ Some c → (t : TableDef) × (table_named name (tables_in d.objects) ≡ Some t)
table_of_content name d whole c is =
    (elim (table_named name (tables_in d.objects)) as (λ (o : Option TableDef). table_named name (tables_in d.objects) ≡ o → (t : TableDef) × (table_named name (tables_in d.objects) ≡ Some t)) [
      | None ↦ λ e. absurd (none_some c (sym (no_content name d whole e) ∙ is))
      | Some t ↦ λ e. (t, e)
    ]) refl
