-- Expressions of statements: PostgreSQL manual, "PL/pgSQL", "Expressions". Each is resolved when it
-- is reached, before any part of it is evaluated, and its calls run as they are reached.
use Rattle.std.specs.Prelude.{List, [], ◌∷◌, Option}
use Rattle.std.specs.Prelude.{Some, None}
use Rattle.pl_base.specs.declared.fail.Fail.{Fail}
use Rattle.pl_base.specs.declared.state.State.{State}
use Rattle.pl_base.specs.declared.value.Value.{Value}
use Rattle.pl_meaning.specs.Rows.{tables_of}
use Rattle.pl_meaning.specs.Selection.{last_of}
use Rattle.pl_meaning.specs.pl_query.Query.{rows}
use Rattle.pl_resolved.specs.declared.query.RQuery.{RQuery}
use Rattle.pl_meaning.specs.pl_scope.declared.resolve.ResolvedExpr.{ResolvedExpr}
use Rattle.pl_meaning.specs.pl_value.Frames.{Row}
use Rattle.pl_meaning.specs.pl_value.Meaning.{Sub, value}
use Rattle.pl_meaning.specs.pl_value.Reading.{Reading, got, fails}
use Rattle.pl_world.specs.Calls.{Within, within, calls}
use Rattle.pl_world.specs.Errors.{Spot, failure, raises, as_run_state}
use Rattle.pl_world.specs.Running.{Runner}
use Rattle.pl_world.specs.Variables.{row_of}
use Rattle.pl_world.specs.World.{World, Ran, behind, ends}
use Rattle.pl_world.specs.declared.outcome.Outcome.{Outcome}
use Rattle.pl_world.specs.declared.outcome.Outcome.TheVariants as outcome

-- ---- what is read

-- nothing happened yet
abbrev pub begun : World → Within
begun w = within w [] None

-- the queries inside read the tables as they are when the statement's expression is reached
abbrev pub inner : Runner → Spot → List RQuery → World → Sub Within
inner r at queries w = rows (calls r at) queries (tables_of w.database.tables)

-- the value of an expression, over this row of variables
abbrev pub value_over : Runner → Spot → ResolvedExpr → Row → World → Reading Within Value
value_over r at e row w =
    value (calls r at) (inner r at e.queries w) e.typed.tree (row ∷ []) (begun w)

-- the rows of a query
abbrev pub rows_over : Runner → Spot → List RQuery → World → Reading Within (List Row)
rows_over r at queries w =
    inner r at queries w (last_of queries) (row_of w.frame ∷ []) (begun w)

-- ---- how it ends

module _ {O : Type 0} (failed : Fail → O) where
  -- the error of a call goes on as it is; any other arises here
  abbrev pub failing : Option Fail → State → Spot → World → Ran O
  failing (Some f) state at w = ends (failed f) w
  failing None state at w = raises failed (failure (as_run_state state) at w) w

  -- what was read is used in the world that its calls left
  unfoldable pub reads : {A : Type 0} → Reading Within A → Spot → (A → World → Ran O) → Ran O
  reads (got a x) at k = behind x.told (k a x.world)
  reads (fails state x) at k = behind x.told (failing x.failure state at x.world)

abbrev pub read : {A : Type 0} → Reading Within A → Spot → (A → World → Ran Outcome) → Ran Outcome
read reading at k = reads outcome.Fail reading at k

-- ---- values within statements

unfoldable pub evaluated : Runner → Spot → ResolvedExpr → World → (Value → World → Ran Outcome)
    → Ran Outcome
evaluated r at e w k = read (value_over r at e (row_of w.frame) w) at k

unfoldable pub queried : Runner → Spot → List RQuery → World → (List Row → World → Ran Outcome)
    → Ran Outcome
queried r at queries w k = read (rows_over r at queries w) at k
