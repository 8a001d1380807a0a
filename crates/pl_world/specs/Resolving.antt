-- What statements resolve, each form by a word of its own. A word takes the objects, the tree and
-- what names mean, and nothing else: no value, no row, nothing of the run. The checker asks the
-- same words. PostgreSQL manual, "PL/pgSQL", "Variable Substitution".
use Rattle.std.specs.Prelude.{ℕ, Bool, false, List, [], ◌∷◌, Option}
use Rattle.std.specs.Prelude.{Some, None, Ok, Err, map, slice_get, unwrap_or}
use Rattle.pl_base.specs.States.{DATATYPE_MISMATCH, FEATURE_NOT_SUPPORTED, UNDEFINED_FUNCTION}
use Rattle.pl_base.specs.States.{UNDEFINED_OBJECT, WRONG_OBJECT_TYPE}
use Rattle.pl_base.specs.declared.types.Ty.{Ty}
use Rattle.pl_base.specs.declared.types.Ty.TheVariants as ty
use Rattle.pl_bodies.specs.declared.declaration.VariableType.{VariableType}
use Rattle.pl_bodies.specs.declared.declaration.VariableType.TheVariants as type
use Rattle.pl_bodies.specs.declared.simple.Change.{Change}
use Rattle.pl_bodies.specs.declared.simple.Change.TheVariants as change
use Rattle.pl_bodies.specs.declared.simple.Target.{Target}
use Rattle.pl_meaning.specs.pl_catalog.Objects.{routine_named, routines_in}
use Rattle.pl_meaning.specs.pl_catalog.declared.object.Object.{Object}
use Rattle.pl_meaning.specs.pl_catalog.declared.object.Routine.{Routine}
use Rattle.pl_meaning.specs.pl_names.Names.{Around, Name, name_means, qualified_means}
use Rattle.pl_meaning.specs.pl_names.Routines.{types_of}
use Rattle.pl_meaning.specs.pl_names.declared.found.Meaning.{Meaning}
use Rattle.pl_resolved.specs.declared.expression.RExpr.{RExpr}
use Rattle.pl_resolved.specs.declared.expression.RExpr.TheVariants.{Place}
use Rattle.pl_resolved.specs.declared.query.RQuery.{RQuery}
use Rattle.pl_meaning.specs.pl_scope.Answers.{Answer, got, fails, gives}
use Rattle.pl_meaning.specs.pl_scope.Expressions.{arguments_on, in_list_of}
use Rattle.pl_meaning.specs.pl_scope.Parts.{Part}
use Rattle.pl_meaning.specs.pl_scope.Resolution.{argument_part, as_expr, nothing_made, part}
use Rattle.pl_meaning.specs.pl_scope.Resolution.{resolved_expr, resolved_query, standing}
use Rattle.pl_meaning.specs.pl_scope.declared.resolve.ResolvedExpr.{ResolvedExpr}
use Rattle.pl_meaning.specs.pl_scope.declared.written.Written.TheVariants.{Other}
use Rattle.pl_meaning.specs.pl_targets.Changes.{resolved_delete, resolved_insert, resolved_update}
use Rattle.pl_meaning.specs.pl_targets.declared.change.RChange.{RChange}
use Rattle.pl_tree.specs.declared.command.RoutineKind.{RoutineKind}
use Rattle.pl_tree.specs.declared.command.RoutineKind.TheVariants.{Function, Procedure}
use Rattle.pl_tree.specs.declared.tree.Argument.{Argument}
use Rattle.pl_tree.specs.declared.tree.Expr.{Expr}
use Rattle.pl_tree.specs.declared.tree.Query.{Query}
use Rattle.pl_meaning.specs.pl_typing.Calls.{fitted, no_arguments}
use Rattle.pl_meaning.specs.pl_typing.Resolved.{Resolved, ◌>>=◌}
use Rattle.pl_meaning.specs.pl_typing.Typing.{typed}
use Rattle.pl_meaning.specs.pl_typing.declared.calls.Arguments.{Arguments}
use Rattle.pl_world.specs.Variables.{variables_of}
use Rattle.pl_world.specs.World.{Static}

-- ---- one reading of the objects and of what names mean

abbrev pub Asks : Type 0 → Type 0
Asks A = List Object → Static → Resolved A

abbrev pub then_ask : {A B : Type 0} → Asks A → (A → Asks B) → Asks B
then_ask m k objects st = m objects st >>= (λ x. k x objects st)

abbrev pub ask : {A : Type 0} → Resolved A → Asks A
ask r objects st = r

-- ---- names and expressions

-- an expression, of whatever type
unfoldable pub reading : Expr → Asks ResolvedExpr
reading e objects st = resolved_expr objects st.scope e

-- a query with those inside it
unfoldable pub querying : Query → Asks (List RQuery)
querying q objects st = resolved_query objects st.scope q

-- a variable that is given a value; where it is required it takes no null
pub record Variable : Type 0 where
  pub at : ℕ
  pub ty : Ty
  pub is_required : Bool

abbrev pub variable_at : Meaning → Asks Variable
variable_at m objects st = Ok (record {
  at = m.column;
  ty = m.ty;
  is_required = unwrap_or (slice_get st.required m.column) false;
})

abbrev pub target_means : Option Name → Name → Around → Resolved Meaning
target_means None x a = name_means x a
target_means (Some q) x a = qualified_means q x a

-- outside of queries a name means a variable
unfoldable pub aiming : Target → Asks Variable
aiming t objects st =
    target_means t.qualifier t.name (standing objects st.scope) >>= (λ m.
    variable_at m objects st)

unfoldable pub aiming_all : List Target → Asks (List Variable)
aiming_all [] = ask (Ok [])
aiming_all (t ∷ ts) =
    then_ask (aiming t) (λ v. then_ask (aiming_all ts) (λ vs. ask (Ok (v ∷ vs))))

-- ---- assignment, RETURN

pub record Placing : Type 0 where
  pub to : Variable
  pub value : ResolvedExpr

-- the target is read first
unfoldable pub placing : Target → Expr → Asks Placing
placing t e =
    then_ask (aiming t) (λ v. then_ask (reading e) (λ x. ask (Ok (record { to = v; value = x }))))

abbrev pub result_of : Option Ty → Resolved Ty
result_of None = Err DATATYPE_MISMATCH
result_of (Some t) = Ok t

-- a value that is returned, where one is due
unfoldable pub giving : Expr → Asks ResolvedExpr
giving e = then_ask (reading e) (λ x objects st. result_of st.result >>= (λ t. Ok x))

-- ---- CASE

-- the operand's value stands behind all variables
abbrev pub operand : Ty → Static → Part
operand t st = record {
  written = Other;
  means = gives (typed (Place 0 (variables_of st.scope.frames)) t);
}

-- whether the operand, of this type, is IN the values of an arm
unfoldable pub matching : Ty → List Expr → Asks ResolvedExpr
matching t values objects st =
    as_expr (in_list_of false (operand t st) (map part values)
    (standing objects st.scope) nothing_made)

-- ---- declarations

abbrev pub scalar : Ty → Resolved Ty
scalar ty.Int = Ok ty.Int
scalar ty.Big = Ok ty.Big
scalar ty.Text = Ok ty.Text
scalar ty.Bool = Ok ty.Bool
scalar t = Err UNDEFINED_OBJECT

abbrev pub type_of : Resolved Meaning → Resolved Ty
type_of (Ok m) = Ok m.ty
type_of (Err state) = Err UNDEFINED_OBJECT

-- the type of a variable; a type that there isn't is 42704
unfoldable pub typing : VariableType → Asks Ty
typing (type.Ty t) objects st = scalar t
typing type.Cursor objects st = Err FEATURE_NOT_SUPPORTED
typing (type.OfVariable x) objects st = type_of (name_means x (standing objects st.scope))
typing (type.OfColumn table column) objects st = Err FEATURE_NOT_SUPPORTED

-- ---- changes of tables

unfoldable pub changing : Change → Asks RChange
changing (change.Insert i) objects st = resolved_insert objects st.scope i
changing (change.Update u) objects st = resolved_update objects st.scope u
changing (change.Delete d) objects st = resolved_delete objects st.scope d

-- ---- CALL

pub record Calling : Type 0 where
  pub routine : Routine
  pub arguments : List RExpr

abbrev pub without_queries : Arguments → List RQuery → Resolved Arguments
without_queries all [] = Ok all
without_queries all (q ∷ qs) = Err FEATURE_NOT_SUPPORTED

abbrev pub arguments_of : Answer Arguments → Resolved Arguments
arguments_of (fails state) = Err state
arguments_of (got all made) = without_queries all made.queries

abbrev pub arguments_read : List Argument → Asks Arguments
arguments_read list objects st =
    arguments_of (arguments_on (map argument_part list) no_arguments
    (standing objects st.scope) nothing_made)

abbrev pub as_procedure : RoutineKind → Routine → List RExpr → Resolved Calling
as_procedure Function r list = Err WRONG_OBJECT_TYPE
as_procedure Procedure r list = Ok (record { routine = r; arguments = list })

-- a routine that doesn't take the arguments isn't looked at further
abbrev pub procedure : Option Routine → Arguments → Resolved Calling
procedure None all = Err UNDEFINED_FUNCTION
procedure (Some r) all =
    fitted all (types_of r.heading.params) >>= (λ list. as_procedure r.heading.kind r list)

-- the arguments are read first, and no query stands in them
unfoldable pub calling : Name → List Argument → Asks Calling
calling name list =
    then_ask (arguments_read list) (λ all objects st.
    procedure (routine_named name (routines_in objects)) all)
