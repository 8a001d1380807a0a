-- What definitions do, whichever objects there are.
use Rattle.std.proofs.Common.{◌≡◌, ◌∙◌, ◌&&◌, ◌||◌, ℕ, cond, length, nat_lt, not, Bool, true, false, List, [], ◌∷◌, Option, Some, None, Ok, Err, is_some, option_map, refl, sym, ap, subst}
use Rattle.std.specs.Option.{option_or}
use Rattle.pl_base.specs.States.{DUPLICATE_FUNCTION, FEATURE_NOT_SUPPORTED, INVALID_FUNCTION_DEFINITION, TOO_MANY_ARGUMENTS, UNDEFINED_FUNCTION, WRONG_OBJECT_TYPE}
use Rattle.pl_base.specs.declared.state.State.{State}
use Rattle.pl_base.specs.declared.types.Ty.{Ty}
use Rattle.pl_base.specs.declared.types.Ty.TheVariants as ty
use Rattle.pl_bodies.specs.declared.statement.Body.{Body}
use Rattle.pl_routine_ddl.specs.pl_catalog.Objects.{is_same, object_called, routine_named, routines_in, tables_in, which_of}
use Rattle.pl_routine_ddl.specs.pl_catalog.declared.object.Object.{Object}
use Rattle.pl_routine_ddl.specs.pl_catalog.declared.object.Object.TheVariants as object
use Rattle.pl_routine_ddl.specs.pl_catalog.declared.object.Routine.{Routine}
use Rattle.pl_routine_ddl.specs.pl_catalog.declared.object.TableDef.{TableDef}
use Rattle.pl_routine_ddl.specs.pl_catalog.declared.object.Which.{Which}
use Rattle.pl_routine_ddl.specs.pl_catalog.declared.object.Which.TheVariants as which
use Rattle.pl_routine_ddl.specs.pl_ddl.Definition as tables
use Rattle.pl_routine_ddl.specs.pl_ddl.Definition.{unless}
use Rattle.pl_routine_ddl.specs.pl_ddl.DefinitionLaws as table_laws
use Rattle.pl_routine_ddl.specs.pl_ddl.Refusals.{refusal_if}
use Rattle.pl_routine_ddl.specs.pl_ddl.Written.{Name}
use Rattle.pl_routine_ddl.specs.pl_ddl.declared.definition.Defined.{Defined as TableDefined}
use Rattle.pl_routine_ddl.specs.pl_ddl.declared.definition.Defined.TheVariants as table
use Rattle.pl_define.specs.Bodies.{body_of}
use Rattle.pl_define.specs.Definition.{create_routine, defined, of_routine, of_routines, of_tables, text_of, with_body}
use Rattle.pl_define.specs.declared.definition.Defined.{Defined}
use Rattle.pl_define.specs.declared.definition.Defined.TheVariants.{Add, Drop, Nothing, Replace}
use Rattle.pl_routine_ddl.specs.Routines as routines
use Rattle.pl_routine_ddl.specs.Routines.{as_routine, dropped, form_refusal, given_refusal, if_allowed, is_built_in, is_same_kind, is_taken, param_refusal, params_refusal, placed, result_refusal, routine_refusal, takes}
use Rattle.pl_routine_ddl.specs.declared.routines.RoutineDefined.{RoutineDefined}
use Rattle.pl_routine_ddl.specs.declared.routines.RoutineDefined.TheVariants as routine
use Rattle.pl_tree.specs.declared.command.Definition.{Definition}
use Rattle.pl_tree.specs.declared.command.Definition.TheVariants as definition
use Rattle.pl_tree.specs.declared.command.NewRoutine.{NewRoutine}
use Rattle.pl_tree.specs.declared.command.Param.{Param}
use Rattle.pl_tree.specs.declared.command.ResultType.{ResultType}
use Rattle.pl_tree.specs.declared.command.ResultType.TheVariants as results
use Rattle.pl_tree.specs.declared.command.RoutineKind.{RoutineKind}
use Rattle.pl_routine_ddl.specs.pl_typing.Resolved.{Resolved, ◌>>=◌}
use Rattle.pl_waiting.specs.Waiting.{body_waits}

-- ---- what goes on goes on from what was given

through : {A B : Type 0} (r : Resolved A) (f : A → Resolved B) (b : B) → (r >>= f) ≡ Ok b → (a : A) × (r ≡ Ok a) × (f a ≡ Ok b)
through (Ok a) f b is = (a, refl, is)
through (Err state) f b is = absurd cc

unrefused : {A : Type 0} (refusal : Option State) (go_on : Resolved A) (a : A) → unless refusal go_on ≡ Ok a → (refusal ≡ None) × (go_on ≡ Ok a)
unrefused None go_on a is = (refl, is)
unrefused (Some state) go_on a is = absurd cc

neither : (a b : Option State) → option_or a b ≡ None → (a ≡ None) × (b ≡ None)
neither None b is = (refl, is)
neither (Some state) b is = absurd cc

both : (a b : Option State) → a ≡ None → b ≡ None → option_or a b ≡ None
both a b first second = ap (λ (o : Option State). option_or o b) first ∙ second

same : {A : Type 0} (a b : A) → (let r : Resolved A = Ok a in r ≡ Ok b) → b ≡ a
same a b is = cc

-- ---- what is done is one thing

same_added : (o p : Object) → Add o ≡ Add p → o ≡ p
same_added o p is = cc

same_replaced : (o p : Object) → Replace o ≡ Replace p → o ≡ p
same_replaced o p is = cc

same_dropped : (w v : Which) → Drop w ≡ Drop v → w ≡ v
same_dropped w v is = cc

add_drop : (o : Object) (w : Which) → Add o ≡ Drop w → ⊥
add_drop o w is = cc

add_replace : (o p : Object) → Add o ≡ Replace p → ⊥
add_replace o p is = cc

add_nothing : (o : Object) (state : State) → Add o ≡ Nothing state → ⊥
add_nothing o state is = cc

replace_drop : (o : Object) (w : Which) → Replace o ≡ Drop w → ⊥
replace_drop o w is = cc

replace_nothing : (o : Object) (state : State) → Replace o ≡ Nothing state → ⊥
replace_nothing o state is = cc

drop_nothing : (w : Which) (state : State) → Drop w ≡ Nothing state → ⊥
drop_nothing w state is = cc

-- ---- tables

-- what is done to a table, by what is done to an object
abbrev OfTable : Resolved TableDefined → Defined → Type 0
OfTable r (Add o) = r ≡ Ok (table.Add o)
OfTable r (Replace o) = ⊥
OfTable r (Drop w) = r ≡ Ok (table.Drop w)
OfTable r (Nothing state) = Unit {0}

table_done : (r : Resolved TableDefined) (d : Defined) → of_tables r ≡ Ok d → OfTable r d
table_done (Ok (table.Add o)) d is = subst (λ (x : Defined). OfTable (Ok (table.Add o)) x) (sym (same (Add o) d is)) refl
table_done (Ok (table.Drop w)) d is = subst (λ (x : Defined). OfTable (Ok (table.Drop w)) x) (sym (same (Drop w) d is)) refl
table_done (Ok (table.Nothing state)) d is = subst (λ (x : Defined). OfTable (Ok (table.Nothing state)) x) (sym (same (Nothing state) d is)) tt
table_done (Err state) d is = absurd cc

-- ---- the routine of a name among the objects

called : (name : List ℕ) (os : List Object) → object_called (which.Routine name) os ≡ option_map object.Routine (routine_named name (routines_in os))
called name [] = refl
called name (object.Routine r ∷ os) =
    elim (is_same r.name name) as (λ (b : Bool). cond b (Some (object.Routine r)) (object_called (which.Routine name) os) ≡ option_map object.Routine (cond b (Some r) (routine_named name (routines_in os)))) [
      | true ↦ refl
      | false ↦ called name os
    ]
called name (object.Table t ∷ os) = called name os
called name (object.Trigger t ∷ os) = called name os

no_routine : (found : Option Routine) → option_map object.Routine found ≡ None → found ≡ None
no_routine None is = refl
no_routine (Some r) is = absurd (let f : Some (object.Routine r) ≡ None = is in cc)

one_routine : (found : Option Routine) → is_some found ≡ true → (p : Object) × (option_map object.Routine found ≡ Some p)
one_routine None is = absurd (let f : (let b : Bool = false in b ≡ true) = is in cc)
one_routine (Some r) is = (object.Routine r, refl)

-- ---- what isn't refused beside some objects isn't beside any, where the name is free

param_alike : (ts us : List TableDef) (t : Ty) → param_refusal ts t ≡ None → param_refusal us t ≡ None
param_alike ts us (ty.Row name) is = absurd cc
param_alike ts us other is = is

params_alike : (ts us : List TableDef) (ps : List Param) → params_refusal ts ps ≡ None → params_refusal us ps ≡ None
params_alike ts us [] is = refl
params_alike ts us (p ∷ ps) is =
    let parts = neither (param_refusal ts p.ty) (params_refusal ts ps) is in
    both (param_refusal us p.ty) (params_refusal us ps) (param_alike ts us p.ty parts.0) (params_alike ts us ps parts.1)

given_alike : (ts us : List TableDef) (t : Ty) → given_refusal ts t ≡ None → given_refusal us t ≡ None
given_alike ts us (ty.Row name) is = absurd cc
given_alike ts us other is = is

result_alike : (ts us : List TableDef) (given : ResultType) → result_refusal ts given ≡ None → result_refusal us given ≡ None
result_alike ts us (results.One t) is = given_alike ts us t is
result_alike ts us other is = is

unnamed : (built_in taken : Bool) (state : State) → refusal_if (built_in || taken) state ≡ None → refusal_if (built_in || false) state ≡ None
unnamed true taken state is = is
unnamed false taken state is = refl

refusal_alike : (old : Option Routine) (ts us : List TableDef) (r : NewRoutine) → routine_refusal old ts r ≡ None → routine_refusal None us r ≡ None
refusal_alike old ts us r is =
    let name = neither (refusal_if (is_taken old r) DUPLICATE_FUNCTION) _ is in
    let params = neither (params_refusal ts r.params) _ name.1 in
    let given = neither (result_refusal ts r.result) _ params.1 in
    let names = neither (refusal_if (routines.two_of_a_name r.params) INVALID_FUNCTION_DEFINITION) _ given.1 in
    let number = neither (refusal_if (nat_lt 64 (length r.params)) TOO_MANY_ARGUMENTS) _ names.1 in
    both (refusal_if (is_taken None r) DUPLICATE_FUNCTION) _ (unnamed (is_built_in r.name) (is_some old && not r.or_replace) DUPLICATE_FUNCTION name.0)
    (both (params_refusal us r.params) _ (params_alike ts us r.params params.0)
    (both (result_refusal us r.result) _ (result_alike ts us r.result given.0) (both _ _ names.0 (both _ _ number.0 refl))))

-- ---- CREATE FUNCTION

-- how a new routine comes to be made, in the place of another or not
record IsCreated (objects : List Object) (r : NewRoutine) (text : List ℕ) (d : Defined) : Type 0 where
  body : Body
  form : form_refusal r ≡ None
  read : body_of r ≡ Ok body
  runs : refusal_if (body_waits body) FEATURE_NOT_SUPPORTED ≡ None
  unrefused_by : routine_refusal (routine_named r.name (routines_in objects)) (tables_in objects) r ≡ None
  made : d ≡ of_routine (placed (routine_named r.name (routines_in objects)) (as_routine r text body))

made_so : (r : Resolved RoutineDefined) (d : Defined) → of_routines r ≡ Ok d → (m : RoutineDefined) × (r ≡ Ok m) × (d ≡ of_routine m)
made_so r d is = let m = through r (λ (x : RoutineDefined). Ok (of_routine x)) d is in (m.0, m.1, same (of_routine m.0) d m.2)

created : (objects : List Object) (r : NewRoutine) (text : List ℕ) (d : Defined) → create_routine objects r text ≡ Ok d → IsCreated objects r text d
created objects r text d is =
    let form = unrefused (form_refusal r) (body_of r >>= (λ body. with_body objects r text body)) d is in
    let read = through (body_of r) (λ body. with_body objects r text body) d form.1 in
    let runs = unrefused (refusal_if (body_waits read.0) FEATURE_NOT_SUPPORTED) (of_routines (routines.create_routine objects r text read.0)) d read.2 in
    let done = made_so (routines.create_routine objects r text read.0) d runs.1 in
    let old = routine_named r.name (routines_in objects) in
    let made = unrefused (routine_refusal old (tables_in objects) r) (Ok (placed old (as_routine r text read.0))) done.0 done.1 in
    record {
      body = read.0;
      form = form.0;
      read = read.1;
      runs = runs.0;
      unrefused_by = made.0;
      made = done.2 ∙ ap of_routine (same (placed old (as_routine r text read.0)) done.0 made.1);
    }

-- it is made beside any objects that have none of its name
created_alike : (objects others : List Object) (r : NewRoutine) (text : List ℕ) (d : Defined) (c : IsCreated objects r text d) → object_called (which.Routine r.name) others ≡ None
    → create_routine others r text ≡ Ok (Add (object.Routine (as_routine r text c.body)))
created_alike objects others r text d c none =
    ap (λ (o : Option State). unless o (body_of r >>= (λ body. with_body others r text body))) c.form
    ∙ ap (λ (m : Resolved Body). m >>= (λ body. with_body others r text body)) c.read
    ∙ ap (λ (o : Option State). unless o (of_routines (routines.create_routine others r text c.body))) c.runs
    ∙ ap (λ (old : Option Routine). of_routines (unless (routine_refusal old (tables_in others) r) (Ok (placed old (as_routine r text c.body))))) free
    ∙ ap (λ (o : Option State). of_routines (unless o (Ok (placed None (as_routine r text c.body)))))
    (refusal_alike (routine_named r.name (routines_in objects)) (tables_in objects) (tables_in others) r c.unrefused_by)
  where
    free : routine_named r.name (routines_in others) ≡ None
    free = no_routine (routine_named r.name (routines_in others)) (sym (called r.name others) ∙ none)

-- ---- DROP FUNCTION

-- a routine is dropped only where there is one, and nothing else is done
abbrev DropsOnly : (there : Bool) → Name → RoutineDefined → Type 0
DropsOnly there name (routine.Add r) = ⊥
DropsOnly there name (routine.Replace r) = ⊥
DropsOnly there name (routine.Drop n) = (n ≡ name) × (there ≡ true)
DropsOnly there name (routine.Nothing state) = Unit {0}

allowed_only : (there : Bool) (name : Name) (is_allowed : Bool) (state : State) (d : RoutineDefined) → if_allowed is_allowed state ≡ Ok d → DropsOnly there name d
allowed_only there name true state d is = subst (λ (x : RoutineDefined). DropsOnly there name x) (sym (same (routine.Nothing state) d is)) tt
allowed_only there name false state d is = absurd cc

kind_only : (name : Name) (b : Bool) (d : RoutineDefined) → (let r : Resolved RoutineDefined = cond b (Ok (routine.Drop name)) (Err WRONG_OBJECT_TYPE) in r ≡ Ok d) → DropsOnly true name d
kind_only name true d is = subst (λ (x : RoutineDefined). DropsOnly true name x) (sym (same (routine.Drop name) d is)) (refl, refl)
kind_only name false d is = absurd cc

types_only : (name : Name) (b if_exists : Bool) (r : Resolved RoutineDefined) (d : RoutineDefined) → (r ≡ Ok d → DropsOnly true name d) → cond (not b) (if_allowed if_exists UNDEFINED_FUNCTION) r ≡ Ok d
    → DropsOnly true name d
types_only name true if_exists r d only is = only is
types_only name false if_exists r d only is = allowed_only true name if_exists UNDEFINED_FUNCTION d is

drops_only : (old : Option Routine) (kind : RoutineKind) (if_exists : Bool) (name : Name) (types : Option (List Ty)) (d : RoutineDefined) → dropped old kind if_exists name types ≡ Ok d → DropsOnly (is_some old) name d
drops_only None kind if_exists name types d is = allowed_only false name if_exists UNDEFINED_FUNCTION d is
drops_only (Some r) kind if_exists name types d is =
    types_only name (takes r types) if_exists (cond (is_same_kind r.heading.kind kind) (Ok (routine.Drop name)) (Err WRONG_OBJECT_TYPE)) d (kind_only name (is_same_kind r.heading.kind kind) d) is

-- so of what is done to objects
abbrev Drops : (there : Bool) → Name → Defined → Type 0
Drops there name (Add o) = ⊥
Drops there name (Replace o) = ⊥
Drops there name (Drop w) = (w ≡ which.Routine name) × (there ≡ true)
Drops there name (Nothing state) = Unit {0}

as_object : (there : Bool) (name : Name) (d : RoutineDefined) → DropsOnly there name d → Drops there name (of_routine d)
as_object there name (routine.Add r) never = absurd never
as_object there name (routine.Replace r) never = absurd never
as_object there name (routine.Drop n) drops = (ap which.Routine drops.0, drops.1)
as_object there name (routine.Nothing state) any = tt

drops : (objects : List Object) (kind : RoutineKind) (if_exists : Bool) (name : Name) (types : Option (List Ty)) (d : Defined) → of_routines (routines.drop_routine objects kind if_exists name types) ≡ Ok d
    → Drops (is_some (routine_named name (routines_in objects))) name d
drops objects kind if_exists name types d is =
    let m = made_so (routines.drop_routine objects kind if_exists name types) d is in
    let old = routine_named name (routines_in objects) in
    subst (λ (x : Defined). Drops (is_some old) name x) (sym m.2) (as_object (is_some old) name m.0 (drops_only old kind if_exists name types m.0 m.1))

-- ---- what is known of what is done

-- the text adds this object beside any others
abbrev AddsAnywhere : Definition → List ℕ → Object → Type 0
AddsAnywhere d text o = (others : List Object) → object_called (which_of o) others ≡ None → defined others d text ≡ Ok (Add o)

record IsNew (objects : List Object) (d : Definition) (text : List ℕ) (o : Object) : Type 0 where
  own_text : text_of o ≡ text
  free : object_called (which_of o) objects ≡ None
  anywhere : AddsAnywhere d text o

record IsPut (objects : List Object) (d : Definition) (text : List ℕ) (o : Object) : Type 0 where
  it : Routine
  is_routine : o ≡ object.Routine it
  own_text : text_of o ≡ text
  there : (p : Object) × (object_called (which_of o) objects ≡ Some p)
  anywhere : AddsAnywhere d text o

abbrev IsDone : List Object → Definition → List ℕ → Defined → Type 0
IsDone objects d text (Add o) = IsNew objects d text o
IsDone objects d text (Replace o) = IsPut objects d text o
IsDone objects d text (Drop w) = (p : Object) × (object_called w objects ≡ Some p)
IsDone objects d text (Nothing state) = Unit {0}

-- of a table
module _ (objects : List Object) (d : Definition) (text : List ℕ) (so : (others : List Object) → defined others d text ≡ of_tables (tables.defined others d text)) where
  table_text : (o : Object) → tables.defined objects d text ≡ Ok (table.Add o) → text_of o ≡ text
  table_text o is = let t = table_laws.table objects d text o is in ap text_of t.1 ∙ t.2

  of_table_done : (e : Defined) → OfTable (tables.defined objects d text) e → IsDone objects d text e
  of_table_done (Add o) is = record {
    own_text = table_text o is;
    free = table_laws.new objects d text o is;
    anywhere = λ others none. so others ∙ ap of_tables (table_laws.alike objects others d text o is none);
  }
  of_table_done (Replace o) never = absurd never
  of_table_done (Drop w) is = table_laws.there objects d text w is
  of_table_done (Nothing state) any = tt

-- of a routine
module _ (objects : List Object) (r : NewRoutine) (text : List ℕ) where
  module _ (e : Defined) (c : IsCreated objects r text e) where
    anywhere_so : AddsAnywhere (definition.CreateRoutine r) text (object.Routine (as_routine r text c.body))
    anywhere_so others none = created_alike objects others r text e c none

    placed_so : (old : Option Routine) → routine_named r.name (routines_in objects) ≡ old → IsDone objects (definition.CreateRoutine r) text (of_routine (placed old (as_routine r text c.body)))
    placed_so None is = record {
      own_text = refl;
      free = called r.name objects ∙ ap (λ (o : Option Routine). option_map object.Routine o) is;
      anywhere = anywhere_so;
    }
    placed_so (Some old) is = record {
      it = as_routine r text c.body;
      is_routine = refl;
      own_text = refl;
      there = (object.Routine old, called r.name objects ∙ ap (λ (o : Option Routine). option_map object.Routine o) is);
      anywhere = anywhere_so;
    }

  created_done : (e : Defined) → IsCreated objects r text e → IsDone objects (definition.CreateRoutine r) text e
  created_done e c =
      subst (λ (x : Defined). IsDone objects (definition.CreateRoutine r) text x) (sym c.made)
      (placed_so e c (routine_named r.name (routines_in objects)) refl)

dropped_done : (objects : List Object) (d : Definition) (text : List ℕ) (name : Name) (e : Defined) → Drops (is_some (routine_named name (routines_in objects))) name e → IsDone objects d text e
dropped_done objects d text name (Add o) never = absurd never
dropped_done objects d text name (Replace o) never = absurd never
dropped_done objects d text name (Drop w) so =
    let p = one_routine (routine_named name (routines_in objects)) so.1 in
    (p.0, ap (λ (v : Which). object_called v objects) so.0 ∙ (called name objects ∙ p.1))
dropped_done objects d text name (Nothing state) any = tt

done : (objects : List Object) (d : Definition) (text : List ℕ) (e : Defined) → defined objects d text ≡ Ok e → IsDone objects d text e
done objects (definition.CreateTable t) text e is =
    of_table_done objects (definition.CreateTable t) text (λ others. refl) e (table_done (tables.defined objects (definition.CreateTable t) text) e is)
done objects (definition.CreateRoutine r) text e is = created_done objects r text e (created objects r text e is)
done objects (definition.CreateTrigger t) text e is = absurd cc
done objects (definition.DropTable if_exists name) text e is =
    of_table_done objects (definition.DropTable if_exists name) text (λ others. refl) e (table_done (tables.defined objects (definition.DropTable if_exists name) text) e is)
done objects (definition.DropRoutine kind if_exists name types) text e is =
    dropped_done objects (definition.DropRoutine kind if_exists name types) text name e (drops objects kind if_exists name types e is)
done objects (definition.DropTrigger if_exists name owner) text e is = absurd cc

-- ---- the laws

module _ (objects : List Object) (d : Definition) (text : List ℕ) where
  module _ (o : Object) where
    pub added_text : defined objects d text ≡ Ok (Add o) → text_of o ≡ text
    added_text is = (done objects d text (Add o) is).own_text

    pub added_new : defined objects d text ≡ Ok (Add o) → object_called (which_of o) objects ≡ None
    added_new is = (done objects d text (Add o) is).free

    pub replacing_text : defined objects d text ≡ Ok (Replace o) → text_of o ≡ text
    replacing_text is = (done objects d text (Replace o) is).own_text

    pub replaced_there : defined objects d text ≡ Ok (Replace o) → (p : Object) × (object_called (which_of o) objects ≡ Some p)
    replaced_there is = (done objects d text (Replace o) is).there

    pub replaced_routine : defined objects d text ≡ Ok (Replace o) → (r : Routine) × (o ≡ object.Routine r)
    replaced_routine is = let put = done objects d text (Replace o) is in (put.it, put.is_routine)

  pub dropped_there : (w : Which) → defined objects d text ≡ Ok (Drop w) → (p : Object) × (object_called w objects ≡ Some p)
  dropped_there w is = done objects d text (Drop w) is

pub added_alike : (objects others : List Object) (d : Definition) (text : List ℕ) (o : Object) → defined objects d text ≡ Ok (Add o) → object_called (which_of o) others ≡ None → defined others d text ≡ Ok (Add o)
added_alike objects others d text o is none = (done objects d text (Add o) is).anywhere others none

pub replacing_alike : (objects others : List Object) (d : Definition) (text : List ℕ) (o : Object) → defined objects d text ≡ Ok (Replace o) → object_called (which_of o) others ≡ None → defined others d text ≡ Ok (Add o)
replacing_alike objects others d text o is none = (done objects d text (Replace o) is).anywhere others none
