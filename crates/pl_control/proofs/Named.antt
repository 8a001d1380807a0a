-- What a CALL names, and how its arguments are taken.
use Rattle.std.proofs.Common.{◌≡◌, ◌∙◌, List, Option, Some, Result, Ok, Err, ap, map, refl, subst, sym}
use Rattle.std.specs.Result.{IsErr, IsErrAnd}
use Rattle.pl_base.specs.declared.state.State.{State}
use Rattle.pl_base.specs.declared.types.Ty.{Ty}
use Rattle.pl_catalog.specs.Objects.{routine_named, routines_in}
use Rattle.pl_catalog.specs.declared.object.Object.{Object}
use Rattle.pl_catalog.specs.declared.object.Routine.{Routine}
use Rattle.pl_control.specs.Called.{ResolvesTo}
use Rattle.pl_control.specs.declared.arguments.Procedure.{Procedure}
use Rattle.pl_names.specs.Names.{Around, Name}
use Rattle.pl_names.specs.Routines.{types_of}
use Rattle.pl_resolved.specs.declared.expression.RExpr.{RExpr}
use Rattle.pl_resolved.specs.declared.query.RQuery.{RQuery}
use Rattle.pl_scope.specs.Answers.{Answer, Meets, got}
use Rattle.pl_scope.specs.Expressions.{arguments_on}
use Rattle.pl_scope.specs.Resolution.{argument_part, nothing_made, standing}
use Rattle.pl_scope.specs.declared.made.Made.{Made}
use Rattle.pl_tree.specs.declared.command.RoutineKind.{RoutineKind}
use Rattle.pl_tree.specs.declared.command.RoutineKind.TheVariants as kind
use Rattle.pl_tree.specs.declared.tree.Argument.{Argument}
use Rattle.pl_typing.specs.Calls.{fitted, no_arguments}
use Rattle.pl_typing.specs.Resolved.{Gives, Resolved, ◌>>=◌}
use Rattle.pl_typing.specs.declared.calls.Arguments.{Arguments}
use Rattle.pl_typing.specs.declared.fail.ScopeFail.{ScopeFail}
use Rattle.pl_typing.specs.declared.fail.ScopeFail.TheVariants as scope
use Rattle.pl_engine.specs.pl_world.Resolving.{Calling, arguments_of, arguments_read, as_procedure, calling, procedure, without_queries}
use Rattle.pl_engine.specs.pl_world.World.{Static}

-- ---- the arguments are read first

calling_by : (name : Name) (list : List Argument) (objects : List Object) (st : Static) (m : Resolved Arguments) → arguments_read list objects st ≡ m → calling name list objects st ≡ (m >>= (λ all. procedure (routine_named name (routines_in objects)) all))
unfolding calling
calling_by name list objects st m is = ap (λ (m : Resolved Arguments). m >>= (λ all. procedure (routine_named name (routines_in objects)) all)) is

-- a refusal is handed on
refused_as : {A : Type 0} (m : Resolved A) (f : A → Resolved Calling) (e : ScopeFail) (r : Result Procedure ScopeFail) → IsErr r × IsErrAnd r (λ x. x ≡ e) → (let given : Result A ScopeFail = Err e in Gives given m) → ResolvesTo r (m >>= f)
refused_as m f e (Ok p) is gives = let none = is.0 in absurd cc
refused_as {A} m f (scope.State state) (Err x) is gives =
    subst (λ (x : ScopeFail). let r : Result Procedure ScopeFail = Err x in ResolvesTo r (m >>= f)) (sym is.1) (ap (λ (m : Resolved A). m >>= f) gives)
refused_as m f scope.Memory (Err x) is gives = subst (λ (x : ScopeFail). let r : Result Procedure ScopeFail = Err x in ResolvesTo r (m >>= f)) (sym is.1) tt

pub unread : (name : Name) (list : List Argument) (objects : List Object) (st : Static) (e : ScopeFail) (r : Result Procedure ScopeFail) → IsErr r × IsErrAnd r (λ x. x ≡ e)
    → (let given : Result Arguments ScopeFail = Err e in Gives given (arguments_read list objects st)) → ResolvesTo r (calling name list objects st)
unread name list objects st e r is gives =
    subst (λ (m : Resolved Calling). ResolvesTo r m) (sym (calling_by name list objects st (arguments_read list objects st) refl))
    (refused_as (arguments_read list objects st) (λ all. procedure (routine_named name (routines_in objects)) all) e r is gives)

pub named : (name : Name) (list : List Argument) (objects : List Object) (st : Static) (all : Arguments) (found : Option Routine) (r : Result Procedure ScopeFail) → arguments_read list objects st ≡ Ok all → routine_named name (routines_in objects) ≡ found
    → ResolvesTo r (procedure found all) → ResolvesTo r (calling name list objects st)
named name list objects st all found r read is resolves =
    subst (λ (m : Resolved Calling). ResolvesTo r m)
    (sym (calling_by name list objects st (Ok all) read ∙ ap (λ (o : Option Routine). procedure o all) is)) resolves

-- ---- each of them in its turn

abbrev each_read : List Argument → List Object → Static → Answer Arguments
each_read list objects st = arguments_on (map argument_part list) no_arguments (standing objects st.scope) nothing_made

handed_on : (r : Result Arguments ScopeFail) (why : ScopeFail) (m : Resolved Arguments) → IsErrAnd r (λ e. e ≡ why) → Gives {A = Arguments} (Err why) m → Gives r m
handed_on (Ok x) why m passed is = absurd passed
handed_on (Err e) why m passed is = subst (λ (e : ScopeFail). Gives {A = Arguments} (Err e) m) (sym passed) is

failed_so : (m : Answer Arguments) (why : ScopeFail) (made : Made) → Meets {A = Arguments} m (Err why) made → Gives {A = Arguments} (Err why) (arguments_of m)
failed_so m (scope.State state) made is = ap (λ (m : Answer Arguments). arguments_of m) is
failed_so m scope.Memory made is = is

module _ (list : List Argument) (objects : List Object) (st : Static) where
  -- as the code begins them
  pub begun_here : (a : Around) (begun : Made) (r : Result Arguments ScopeFail) (made : Made) → a ≡ standing objects st.scope → begun ≡ nothing_made → Meets (arguments_on (map argument_part list) no_arguments a begun) r made
      → Meets (each_read list objects st) r made
  begun_here a begun r made around begins meets =
      subst (λ (a : Around). Meets (arguments_on (map argument_part list) no_arguments a nothing_made) r made) around
      (subst (λ (m : Made). Meets (arguments_on (map argument_part list) no_arguments a m) r made) begins meets)

  pub not_read : (r : Result Arguments ScopeFail) (why : ScopeFail) (made : Made) → IsErrAnd r (λ e. e ≡ why) → Meets {A = Arguments} (each_read list objects st) (Err why) made → Gives r (arguments_read list objects st)
  not_read r why made passed is = handed_on r why (arguments_of (each_read list objects st)) passed (failed_so (each_read list objects st) why made is)

  pub all_read : (all : Arguments) (made : Made) (queries : List RQuery) (r : Result Arguments ScopeFail) → queries ≡ made.queries → each_read list objects st ≡ got all made → Gives r (without_queries all queries) → Gives r (arguments_read list objects st)
  all_read all made queries r same read gives =
      subst (λ (m : Resolved Arguments). Gives r m)
      (ap (λ (qs : List RQuery). without_queries all qs) same ∙ sym (ap (λ (m : Answer Arguments). arguments_of m) read)) gives

-- ---- a routine that takes them

module _ (routine : Routine) (all : Arguments) (types : List Ty) (are : types ≡ types_of routine.heading.params) where
  fitted_by : (m : Resolved (List RExpr)) → fitted all types ≡ m → procedure (Some routine) all ≡ (m >>= (λ list. as_procedure routine.heading.kind routine list))
  fitted_by m is = ap (λ (ts : List Ty). fitted all ts >>= (λ list. as_procedure routine.heading.kind routine list)) (sym are) ∙ ap (λ (m : Resolved (List RExpr)). m >>= (λ list. as_procedure routine.heading.kind routine list)) is

  pub not_fitted : (e : ScopeFail) (r : Result Procedure ScopeFail) → IsErr r × IsErrAnd r (λ x. x ≡ e) → (let given : Result (List RExpr) ScopeFail = Err e in Gives given (fitted all types)) → ResolvesTo r (procedure (Some routine) all)
  not_fitted e r is gives =
      subst (λ (m : Resolved Calling). ResolvesTo r m) (sym (fitted_by (fitted all types) refl))
      (refused_as (fitted all types) (λ list. as_procedure routine.heading.kind routine list) e r is gives)

  by_kind : (list : List RExpr) (k : RoutineKind) → routine.heading.kind ≡ k → fitted all types ≡ Ok list → procedure (Some routine) all ≡ as_procedure k routine list
  by_kind list k kind is = fitted_by (Ok list) is ∙ ap (λ (k : RoutineKind). as_procedure k routine list) kind

  pub is_procedure : (list : List RExpr) → routine.heading.kind ≡ kind.Procedure → fitted all types ≡ Ok list → (let r : Result Procedure ScopeFail = Ok (record { name = routine.name; arguments = list }) in ResolvesTo r (procedure (Some routine) all))
  is_procedure list is fits = (record { routine = routine; arguments = list }, by_kind list kind.Procedure is fits, record { name = refl; arguments = refl })

  pub is_function : (list : List RExpr) (c : Resolved Calling) → routine.heading.kind ≡ kind.Function → fitted all types ≡ Ok list → as_procedure kind.Function routine list ≡ c → procedure (Some routine) all ≡ c
  is_function list c is fits same = by_kind list kind.Function is fits ∙ same

-- there was no memory
pub lost : (m : Resolved Calling) (r : Result Procedure ScopeFail) → IsErr r × IsErrAnd r (λ x. x ≡ scope.Memory) → ResolvesTo r m
lost m (Ok p) is = let none = is.0 in absurd cc
lost m (Err x) is = subst (λ (x : ScopeFail). let r : Result Procedure ScopeFail = Err x in ResolvesTo r m) (sym is.1) tt
