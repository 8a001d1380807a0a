-- Proofs that other crates' proofs may cite; no definition. What definitions do, whichever objects there are.
use Rattle.std.proofs.Common.{◌≡◌, ◌∙◌, refl, sym, ap, ℕ, Bool, true, false, if◌then◌else◌, List, [], ◌∷◌, Option, Some, None, Ok, Err, cond, is_some, option_map}
use Rattle.std.specs.Option.{option_or}
use Rattle.pl_base.specs.States.{DUPLICATE_TABLE, UNDEFINED_TABLE}
use Rattle.pl_base.specs.declared.state.State.{State}
use Rattle.pl_base.specs.declared.types.Ty.{Ty}
use Rattle.pl_base.specs.declared.types.Ty.TheVariants as ty
use Rattle.pl_catalog.specs.Objects.{is_same, object_called, table_named, tables_in, which_of}
use Rattle.pl_catalog.specs.declared.object.Object.{Object}
use Rattle.pl_catalog.specs.declared.object.Object.TheVariants as object
use Rattle.pl_catalog.specs.declared.object.TableDef.{TableDef}
use Rattle.pl_catalog.specs.declared.object.Which.{Which}
use Rattle.pl_catalog.specs.declared.object.Which.TheVariants as which
use Rattle.pl_ddl.specs.Definition.{columns_from, create_table, defined, if_allowed, key_of, made_table, named_table, new_table, rules_from, unless}
use Rattle.pl_ddl.specs.Expressions.{elements_failure, row_scope}
use Rattle.pl_ddl.specs.Naming.{names_from}
use Rattle.pl_ddl.specs.Refusals.{column_refusal, columns_refusal, names_of, table_refusal, type_refusal}
use Rattle.pl_ddl.specs.Written.{columns_in, rules_in, Name, NewColumn, NewRule}
use Rattle.pl_ddl.specs.declared.definition.Defined.{Defined}
use Rattle.pl_ddl.specs.declared.definition.Defined.TheVariants.{Add, Drop, Nothing}
use Rattle.pl_tree.specs.declared.command.Definition.{Definition}
use Rattle.pl_tree.specs.declared.command.Definition.TheVariants as definition
use Rattle.pl_tree.specs.declared.command.Element.{Element}
use Rattle.pl_tree.specs.declared.command.NewTable.{NewTable}
use Rattle.pl_assigning.specs.pl_typing.Resolved.{Resolved, ◌>>=◌}

-- ---- what goes on goes on from what was given

through : {A B : Type 0} (r : Resolved A) (f : A → Resolved B) (b : B) → (r >>= f) ≡ Ok b → (a : A) × (r ≡ Ok a) × (f a ≡ Ok b)
through (Ok a) f b is = (a, refl, is)
through (Err state) f b is = absurd cc

unrefused : {A : Type 0} (refusal : Option State) (go_on : Resolved A) (a : A) → unless refusal go_on ≡ Ok a → (refusal ≡ None) × (go_on ≡ Ok a)
unrefused None go_on a is = (refl, is)
unrefused (Some state) go_on a is = absurd cc

neither : (a b : Option State) → option_or a b ≡ None → (a ≡ None) × (b ≡ None)
neither None b is = (refl, is)
neither (Some state) b is = absurd cc

both : (a b : Option State) → a ≡ None → b ≡ None → option_or a b ≡ None
both a b first second = ap (λ (o : Option State). option_or o b) first ∙ second

-- ---- the table of a name among the objects

called : (name : List ℕ) (os : List Object) → object_called (which.Table name) os ≡ option_map object.Table (table_named name (tables_in os))
called name [] = refl
called name (object.Table t ∷ os) =
    elim (is_same t.name name) as (λ (b : Bool). cond b (Some (object.Table t)) (object_called (which.Table name) os) ≡ option_map object.Table (cond b (Some t) (table_named name (tables_in os)))) [
      | true ↦ refl
      | false ↦ called name os
    ]
called name (object.Routine r ∷ os) = called name os
called name (object.Trigger t ∷ os) = called name os

no_object : (found : Option TableDef) → is_some found ≡ false → option_map object.Table found ≡ None
no_object None is = refl
no_object (Some t) is = absurd (let f : (let b : Bool = true in b ≡ false) = is in cc)

no_table : (found : Option TableDef) → option_map object.Table found ≡ None → is_some found ≡ false
no_table None is = refl
no_table (Some t) is = absurd (let f : Some (object.Table t) ≡ None = is in cc)

one_table : (found : Option TableDef) → is_some found ≡ true → (p : Object) × (option_map object.Table found ≡ Some p)
one_table None is = absurd (let f : (let b : Bool = false in b ≡ true) = is in cc)
one_table (Some t) is = (object.Table t, refl)

-- ---- columns that are taken beside some tables are taken beside any

type_alike : (ts us : List TableDef) (t : Ty) → type_refusal ts t ≡ None → type_refusal us t ≡ None
type_alike ts us (ty.Row name) is = absurd cc
type_alike ts us other is = is

column_alike : (ts us : List TableDef) (c : NewColumn) → column_refusal ts c ≡ None → column_refusal us c ≡ None
column_alike ts us c is =
    let parts = neither (type_refusal ts c.ty) _ is in
    both (type_refusal us c.ty) _ (type_alike ts us c.ty parts.0) parts.1

columns_alike : (ts us : List TableDef) (cs : List NewColumn) → columns_refusal ts cs ≡ None → columns_refusal us cs ≡ None
columns_alike ts us [] is = refl
columns_alike ts us (c ∷ cs) is =
    let parts = neither (column_refusal ts c) (columns_refusal ts cs) is in
    both (column_refusal us c) (columns_refusal us cs) (column_alike ts us c parts.0) (columns_alike ts us cs parts.1)

inside : (a b other rest : Option State) → (b ≡ None → other ≡ None) → option_or a (option_or b rest) ≡ None → option_or a (option_or other rest) ≡ None
inside a b other rest so is =
    let first = neither a (option_or b rest) is in
    let second = neither b rest first.1 in
    both a (option_or other rest) first.0 (both other rest (so second.0) second.1)

table_alike : (ts us : List TableDef) (columns : List NewColumn) (names : List Name) (rules : List NewRule)
    → table_refusal ts columns names rules ≡ None → table_refusal us columns names rules ≡ None
table_alike ts us columns names rules is = inside _ (columns_refusal ts columns) (columns_refusal us columns) _ (columns_alike ts us columns) is

-- ---- CREATE TABLE

-- this is the table of this name and this text
abbrev IsMade : Name → List ℕ → Defined → Type 0
IsMade name text d = (t : TableDef) × (d ≡ Add (object.Table t)) × (t.name ≡ name) × (t.text ≡ text)

same : {A : Type 0} (a b : A) → (let r : Resolved A = Ok a in r ≡ Ok b) → b ≡ a
same a b is = cc

same_object : (o p : Object) → Add o ≡ Add p → o ≡ p
same_object o p is = cc

same_which : (w v : Which) → Drop w ≡ Drop v → w ≡ v
same_which w v is = cc

by_rules : (name : Name) (text : List ℕ) (columns : List NewColumn) (column_names : List Name) (rules : List NewRule) (names : List Name) (d : Defined)
    → made_table name text columns column_names rules names ≡ Ok d → IsMade name text d
by_rules name text columns column_names rules names d is =
    let made = through (columns_from (key_of rules) [] columns) _ d is in
    let held = through (rules_from (row_scope name columns) column_names [] rules names) _ d made.2 in
    (record { name = name; text = text; columns = made.0; rules = held.0 }, same _ d held.2, refl, refl)

by_names : (name : Name) (text : List ℕ) (elements : List Element) (columns : List NewColumn) (column_names : List Name) (rules : List NewRule) (d : Defined)
    → named_table name text elements columns column_names rules ≡ Ok d → IsMade name text d
by_names name text elements columns column_names rules d is =
    let names = through (names_from name column_names [] rules) _ d is in
    let judged = unrefused (elements_failure (row_scope name columns) elements) (made_table name text columns column_names rules names.0) d names.2 in
    by_rules name text columns column_names rules names.0 d judged.1

module _ (os : List Object) (name : Name) (text : List ℕ) (elements : List Element) (d : Defined) (is : new_table os name text elements ≡ Ok d) where
  judged : (table_refusal (tables_in os) (columns_in elements) (names_of (columns_in elements)) (rules_in elements) ≡ None)
      × (named_table name text elements (columns_in elements) (names_of (columns_in elements)) (rules_in elements) ≡ Ok d)
  judged =
      unrefused (table_refusal (tables_in os) (columns_in elements) (names_of (columns_in elements)) (rules_in elements))
      (named_table name text elements (columns_in elements) (names_of (columns_in elements)) (rules_in elements)) d is

  new_made : IsMade name text d
  new_made = by_names name text elements (columns_in elements) (names_of (columns_in elements)) (rules_in elements) d judged.1

  new_alike : (others : List Object) → new_table others name text elements ≡ Ok d
  new_alike others =
      ap (λ (refusal : Option State). unless refusal (named_table name text elements (columns_in elements) (names_of (columns_in elements)) (rules_in elements)))
      (table_alike (tables_in os) (tables_in others) (columns_in elements) (names_of (columns_in elements)) (rules_in elements) judged.0)
      ∙ judged.1

-- ---- what is allowed changes nothing

unchanged : (is_allowed : Bool) (state : State) (d : Defined) → if_allowed is_allowed state ≡ Ok d → d ≡ Nothing state
unchanged true state d is = same (Nothing state) d is
unchanged false state d is = absurd cc

untaken : (taken is_allowed : Bool) (state : State) (r : Resolved Defined) (d : Defined) → (d ≡ Nothing state → ⊥)
    → (if taken then if_allowed is_allowed state else r) ≡ Ok d → (taken ≡ false) × (r ≡ Ok d)
untaken true is_allowed state r d changes is = absurd (changes (unchanged is_allowed state d is))
untaken false is_allowed state r d changes is = (refl, is)

dropped : (taken is_allowed : Bool) (state : State) (w : Which) (d : Defined) → (d ≡ Nothing state → ⊥)
    → (if taken then Ok (Drop w) else if_allowed is_allowed state) ≡ Ok d → (taken ≡ true) × (d ≡ Drop w)
dropped true is_allowed state w d changes is = (refl, same (Drop w) d is)
dropped false is_allowed state w d changes is = absurd (changes (unchanged is_allowed state d is))

-- the name of a new table is free, and the object is that table
module _ (os : List Object) (t : NewTable) (text : List ℕ) (d : Defined) (changes : d ≡ Nothing DUPLICATE_TABLE → ⊥) (is : create_table os t text ≡ Ok d) where
  free : (is_some (table_named t.name (tables_in os)) ≡ false) × (new_table os t.name text t.elements ≡ Ok d)
  free = untaken (is_some (table_named t.name (tables_in os))) t.if_not_exists DUPLICATE_TABLE (new_table os t.name text t.elements) d changes is

  created : IsMade t.name text d
  created = new_made os t.name text t.elements d free.1

  created_alike : (others : List Object) → object_called (which.Table t.name) others ≡ None → create_table others t text ≡ Ok d
  created_alike others none =
      ap (λ (taken : Bool). if taken then if_allowed t.if_not_exists DUPLICATE_TABLE else new_table others t.name text t.elements)
      (no_table (table_named t.name (tables_in others)) (sym (called t.name others) ∙ none))
      ∙ new_alike os t.name text t.elements d free.1 others

adds : (o : Object) (state : State) → Add o ≡ Nothing state → ⊥
adds o state is = cc

drops : (w : Which) (state : State) → Drop w ≡ Nothing state → ⊥
drops w state is = cc

-- what a new table is found by
by_name : (name : Name) (text : List ℕ) (o : Object) → IsMade name text (Add o) → which_of o ≡ which.Table name
by_name name text o made = ap which_of (same_object o (object.Table made.0) made.1) ∙ ap which.Table made.2

-- ---- definitions

-- what is known where a definition adds an object
record IsAdded (objects : List Object) (d : Definition) (text : List ℕ) (o : Object) : Type 0 where
  made : TableDef
  is_table : o ≡ object.Table made
  of_text : made.text ≡ text
  is_new : object_called (which_of o) objects ≡ None
  likewise : (others : List Object) → object_called (which_of o) others ≡ None → defined others d text ≡ Ok (Add o)

created_so : (objects : List Object) (t : NewTable) (text : List ℕ) (o : Object) → create_table objects t text ≡ Ok (Add o) → IsAdded objects (definition.CreateTable t) text o
created_so objects t text o is =
    let changes = adds o DUPLICATE_TABLE in
    let table = created objects t text (Add o) changes is in
    let name : which_of o ≡ which.Table t.name = by_name t.name text o table in
    record {
      made = table.0;
      is_table = same_object o (object.Table table.0) table.1;
      of_text = table.3;
      is_new = ap (λ (w : Which). object_called w objects) name
          ∙ (called t.name objects ∙ no_object (table_named t.name (tables_in objects)) (free objects t text (Add o) changes is).0);
      likewise = λ others none. created_alike objects t text (Add o) changes is others (ap (λ (w : Which). object_called w others) (sym name) ∙ none);
    }

added : (objects : List Object) (d : Definition) (text : List ℕ) (o : Object) → defined objects d text ≡ Ok (Add o) → IsAdded objects d text o
added objects (definition.CreateTable t) text o is = created_so objects t text o is
added objects (definition.CreateRoutine r) text o is = absurd cc
added objects (definition.CreateTrigger t) text o is = absurd cc
added objects (definition.DropTable if_exists name) text o is =
    let gone = dropped (is_some (table_named name (tables_in objects))) if_exists UNDEFINED_TABLE (which.Table name) (Add o) (adds o UNDEFINED_TABLE) is in
    absurd (let f : Add o ≡ Drop (which.Table name) = gone.1 in cc)
added objects (definition.DropRoutine kind if_exists name types) text o is = absurd cc
added objects (definition.DropTrigger if_exists name table) text o is = absurd cc

-- a definition that makes an object beside some makes it beside any others where its name is free
pub alike : (objects others : List Object) (d : Definition) (text : List ℕ) (o : Object) → defined objects d text ≡ Ok (Add o) → object_called (which_of o) others ≡ None → defined others d text ≡ Ok (Add o)
alike objects others d text o is none = (added objects d text o is).likewise others none

-- what a definition adds isn't there
pub new : (objects : List Object) (d : Definition) (text : List ℕ) (o : Object) → defined objects d text ≡ Ok (Add o) → object_called (which_of o) objects ≡ None
new objects d text o is = (added objects d text o is).is_new

-- what a definition adds is a table of its text
pub table : (objects : List Object) (d : Definition) (text : List ℕ) (o : Object) → defined objects d text ≡ Ok (Add o) → (t : TableDef) × (o ≡ object.Table t) × (t.text ≡ text)
table objects d text o is = let a = added objects d text o is in (a.made, a.is_table, a.of_text)

-- what a definition drops is there
pub there : (objects : List Object) (d : Definition) (text : List ℕ) (w : Which) → defined objects d text ≡ Ok (Drop w) → (p : Object) × (object_called w objects ≡ Some p)
there objects (definition.CreateTable t) text w is =
    absurd (let made = created objects t text (Drop w) (drops w DUPLICATE_TABLE) is in let f : Drop w ≡ Add (object.Table made.0) = made.1 in cc)
there objects (definition.CreateRoutine r) text w is = absurd cc
there objects (definition.CreateTrigger t) text w is = absurd cc
there objects (definition.DropTable if_exists name) text w is =
    let gone = dropped (is_some (table_named name (tables_in objects))) if_exists UNDEFINED_TABLE (which.Table name) (Drop w) (drops w UNDEFINED_TABLE) is in
    let p = one_table (table_named name (tables_in objects)) gone.0 in
    (p.0, ap (λ (v : Which). object_called v objects) (same_which w (which.Table name) gone.1) ∙ (called name objects ∙ p.1))
there objects (definition.DropRoutine kind if_exists name types) text w is = absurd cc
there objects (definition.DropTrigger if_exists name table) text w is = absurd cc
