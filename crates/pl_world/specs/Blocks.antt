-- Blocks, their declarations and their handlers: PostgreSQL manual, "PL/pgSQL", "Structure of
-- PL/pgSQL", "Declarations", "Trapping Errors". A block with handlers keeps a copy of the whole
-- database, and a handler begins with that copy; the variables stay as they are.
use Rattle.std.specs.Prelude.{suc, Bool, false, if◌then◌else◌, List, [], ◌∷◌, Option, Some}
use Rattle.std.specs.Prelude.{None, Ok, bytes_eq, codes, drop}
use Rattle.pl_base.specs.States.{FEATURE_NOT_SUPPORTED}
use Rattle.pl_base.specs.declared.fail.Fail.{Fail}
use Rattle.pl_base.specs.declared.types.Ty.{Ty}
use Rattle.pl_base.specs.declared.types.Ty.TheVariants.{Text as TextType}
use Rattle.pl_base.specs.declared.value.Value.{Value}
use Rattle.pl_base.specs.declared.value.Value.TheVariants.{Null, Text}
use Rattle.pl_bodies.specs.declared.declaration.Declaration.{Declaration}
use Rattle.pl_bodies.specs.declared.declaration.DeclarationKind.{DeclarationKind}
use Rattle.pl_bodies.specs.declared.declaration.DeclarationKind.TheVariants as declare
use Rattle.pl_bodies.specs.declared.declaration.VariableType.{VariableType}
use Rattle.pl_bodies.specs.declared.statement.Block.{Block, out-Block}
use Rattle.pl_bodies.specs.declared.statement.Handler.{Handler, out-Handler}
use Rattle.pl_bodies.specs.declared.statement.Statement.{Statement}
use Rattle.pl_meaning.specs.pl_names.Names.{Name}
use Rattle.pl_print.specs.Messages.{message_text}
use Rattle.pl_meaning.specs.pl_scope.declared.resolve.ResolvedExpr.{ResolvedExpr}
use Rattle.pl_tree.specs.declared.tree.Expr.{Expr}
use Rattle.pl_world.specs.Assigning.{kept_if, takes}
use Rattle.pl_world.specs.Conditions.{matches_one}
use Rattle.pl_world.specs.Conversions.{as_type}
use Rattle.pl_world.specs.Errors.{Spot, raised, resolved}
use Rattle.pl_world.specs.Expressions.{evaluated}
use Rattle.pl_world.specs.Resolving.{Asks, ask, reading, then_ask, typing}
use Rattle.pl_world.specs.Running.{Runner, all, on_next}
use Rattle.pl_world.specs.Variables.{closed, declared, opened}
use Rattle.pl_world.specs.World.{World, Ran, and_then, ends}
use Rattle.pl_world.specs.declared.outcome.Outcome.{Outcome}
use Rattle.pl_world.specs.declared.outcome.Outcome.TheVariants as outcome

-- ---- declarations

pub record Declaring : Type 0 where
  pub ty : Ty
  pub value : Option ResolvedExpr

abbrev pub default_means : Option Expr → Asks (Option ResolvedExpr)
default_means None = ask (Ok None)
default_means (Some e) = then_ask (reading e) (λ x. ask (Ok (Some x)))

-- a declaration is resolved when it is reached: its type, and then its default, which sees the
-- variables that were declared before it
unfoldable pub declaring : VariableType → Option Expr → Asks Declaring
declaring t default =
    then_ask (typing t) (λ ty. then_ask (default_means default) (λ value.
    ask (Ok (record { ty = ty; value = value }))))

-- without a default a variable is null
abbrev pub default_value : Runner → Spot → Option ResolvedExpr → World
    → (Value → World → Ran Outcome) → Ran Outcome
default_value r at None w k = k Null w
default_value r at (Some x) w k = evaluated r at x w k

abbrev pub declares : Runner → Spot → Name → Bool → Declaring → World → Ran Outcome
declares r at name is_required d w =
    default_value r at d.value w (λ v w. as_type d.ty v at w (λ v w.
    kept_if (takes is_required v) (declared name d.ty is_required v w) at w))

abbrev pub one_declared : Runner → Spot → Name → DeclarationKind → World → Ran Outcome
one_declared r at name (declare.Variable is_constant t is_not_null default) w =
    resolved (declaring t default w.database.objects w.frame.static) at w (λ d.
    declares r at name is_not_null d w)
one_declared r at name (declare.Cursor can_scroll parameters query) w =
    raised FEATURE_NOT_SUPPORTED at w

unfoldable pub all_declared : Runner → Spot → List Declaration → World → Ran Outcome
all_declared r at [] w = ends outcome.Next w
all_declared r at (d ∷ ds) w =
    and_then (one_declared r at d.name d.kind w) (on_next (λ w. all_declared r at ds w))

-- ---- handlers

-- the statements of the first handler that catches the error
abbrev pub handler_for : List Handler → Fail → Option (List Statement)
handler_for [] f = None
handler_for (h ∷ hs) f =
    if matches_one (out-Handler h).conditions f then Some (out-Handler h).statements
    else handler_for hs f

-- the error is the newest that this call handles
abbrev pub with_handled : Fail → World → World
with_handled f w = record w { frame = record w.frame { handled = f ∷ w.frame.handled } }

-- it is no longer
abbrev pub without_handled : World → World
without_handled w = record w { frame = record w.frame { handled = drop 1 w.frame.handled } }

abbrev pub sqlstate_of : Fail → Value
sqlstate_of f = Text f.state.code

abbrev pub sqlerrm_of : Fail → Value
sqlerrm_of f = Text (message_text f.state.code f.message)

-- SQLSTATE and SQLERRM are variables of the handler, under the label of its block
abbrev pub with_sqlstate : Option Name → Fail → World → World
with_sqlstate label f w =
    declared (codes "sqlerrm") TextType false (sqlerrm_of f)
    (declared (codes "sqlstate") TextType false (sqlstate_of f) (opened label w))

-- The world of the failure with the database as it was at the entry. All else stays: variables,
-- FOUND, ROW_COUNT, steps.
unfoldable pub handling : Option Name → World → Fail → World → World
handling label entry f w = with_sqlstate label f (with_handled f (record w {
  database = entry.database;
  depth = entry.depth;
}))

unfoldable pub handled_end : Outcome → World → Ran Outcome
handled_end o w = ends o (without_handled (closed w))

abbrev pub handled_by : Runner → Option Name → Option (List Statement) → World → Fail → World
    → Ran Outcome
handled_by r label None entry f w = ends (outcome.Fail f) (record w { depth = entry.depth })
handled_by r label (Some statements) entry f w =
    and_then (all r statements (handling label entry f w)) handled_end

-- of the world at the entry the database is used, which is put back for a handler
unfoldable pub caught : Runner → Option Name → List Handler → World → Outcome → World
    → Ran Outcome
caught r label hs entry (outcome.Fail f) w = handled_by r label (handler_for hs f) entry f w
caught r label hs entry o w = ends o (record w { depth = entry.depth })

-- one more block runs protected statements
abbrev pub deeper : World → World
deeper w = record w { depth = suc w.depth }

-- statements are protected where the block has handlers
unfoldable pub protected : Runner → Option Name → List Statement → List Handler → World
    → Ran Outcome
protected r label statements [] w = all r statements w
protected r label statements (h ∷ hs) w =
    and_then (all r statements (deeper w)) (caught r label (h ∷ hs) w)

-- ---- the block

-- EXIT that names the block
abbrev pub is_named : Option Name → Option Name → Bool
is_named (Some label) (Some to) = bytes_eq label to
is_named label to = false

abbrev pub block_end : Option Name → Outcome → Outcome
block_end label (outcome.Exit to) = if is_named label to then outcome.Next else outcome.Exit to
block_end label o = o

-- its variables end with it
unfoldable pub block_left : Option Name → Outcome → World → Ran Outcome
block_left label o w = ends (block_end label o) (closed w)

-- the declarations stand outside of what the handlers protect
unfoldable pub within_block : Runner → Spot → Block → World → Ran Outcome
within_block r at b w =
    and_then (all_declared r at (out-Block b).declarations w)
    (on_next (protected r (out-Block b).label (out-Block b).statements (out-Block b).handlers))

unfoldable pub block : Runner → Spot → Block → World → Ran Outcome
block r at b w =
    and_then (within_block r at b (opened (out-Block b).label w)) (block_left (out-Block b).label)
