-- Runs that only compute: steps are taken and variables are given values, and nothing else happens.
use Rattle.std.specs.Prelude.{◌≡◌, ◌≤◌, ◌+◌, ℕ, Bool, true, if◌then◌else◌, List, [], Option, Some, None}
use Rattle.pl_bodies.specs.declared.simple.Jump.TheVariants as jump
use Rattle.pl_bodies.specs.declared.statement.Branch.{Branch}
use Rattle.pl_bodies.specs.declared.statement.Otherwise.{Otherwise}
use Rattle.pl_bodies.specs.declared.statement.Statement.{Statement}
use Rattle.pl_direct.specs.Direct.{Valued}
use Rattle.pl_direct.specs.Known.{value_of}
use Rattle.pl_direct.specs.declared.known.Known.{Known}
use Rattle.pl_direct.specs.declared.known.Known.TheVariants.{Bool as Truth}
use Rattle.pl_direct.specs.pl_scope.declared.resolve.ResolvedExpr.{ResolvedExpr}
use Rattle.pl_engine.specs.Engines.{stepped_in}
use Rattle.pl_engine.specs.Texts.{do_bodies}
use Rattle.pl_engine.specs.pl_world.Calls.{Within}
use Rattle.pl_engine.specs.pl_world.Control.{Test, branches, forever, jumped, tested, turn}
use Rattle.pl_engine.specs.pl_world.Errors.{Spot}
use Rattle.pl_engine.specs.pl_world.Running.{Runner, all, statement}
use Rattle.pl_engine.specs.pl_world.Scripts.{outward}
use Rattle.pl_engine.specs.pl_world.Statements.{Layer, form, run_within, runner_for}
use Rattle.pl_engine.specs.pl_world.Variables.{row_of}
use Rattle.pl_engine.specs.pl_world.World.{Event, Ran, World, behind, ends}
use Rattle.pl_engine.specs.pl_world.declared.outcome.Outcome.{Outcome}
use Rattle.pl_engine.specs.pl_world.declared.outcome.Outcome.TheVariants as outcome
use Rattle.pl_names.specs.Names.{Name}
use Rattle.pl_quick.specs.declared.acting.End.{End}
use Rattle.pl_quick.specs.declared.acting.End.TheVariants as end
use Rattle.pl_quick.specs.declared.turning.Turned.{Turned}
use Rattle.pl_quick.specs.declared.turning.Turned.TheVariants as turned
use Rattle.pl_tree.specs.declared.tree.Expr.{Expr}
use Rattle.pl_value.specs.Frames.{Row}

-- by steps alone the whole leads to what rest goes on with, and to the new world
pub record Computes {O : Type 0} (whole rest : Ran O) (old new : World) : Type 0 where
  pub events : List Event
  pub goes_on : whole ≡ behind events rest
  pub silent : outward events ≡ []
  pub spent : old.steps ≡ new.steps + stepped_in events

-- nothing is other than values of variables and the steps that are left
abbrev pub OnlyComputed : World → World → Type 0
OnlyComputed old new =
    new ≡ record old { frame = record old.frame { values = new.frame.values }; steps = new.steps }

-- ---- turns

-- what a loop asks before each turn, where it has a condition
abbrev pub test_of : Runner → Spot → Option Expr → Test
test_of r at None = forever
test_of r at (Some e) = tested r at e

-- it is asked, and there is a turn where it is true
abbrev pub round : Runner → Spot → Option Name → Option Expr → List Statement → World
    → (World → Ran Outcome) → Ran Outcome
round r at label condition body w k =
    test_of r at condition w (λ is w.
    if is then turn r at label body w k else ends outcome.Next w)

-- A round of a loop of this condition and body is done, wherever there is room for the steps that
-- are left: the loop goes on behind it, or it is over. Or nothing is done.
abbrev pub TurnedAs : Turned → Option Expr → List Statement → (old new : World) → Type 0
TurnedAs turned.On condition body old new =
    (at : Spot) (label : Option Name) (room : ℕ) (k : World → Ran Outcome) → old.steps ≤ room
    → Computes (round (runner_for do_bodies room) at label condition body old k) (k new) old new
TurnedAs turned.Over condition body old new =
    (at : Spot) (label : Option Name) (room : ℕ) (k : World → Ran Outcome) → old.steps ≤ room
    → Computes (round (runner_for do_bodies room) at label condition body old k)
    (ends outcome.Next new) old new
TurnedAs turned.Left condition body old new = new ≡ old

-- ---- values

-- the resolved expression has this value over a row of variables, whatever makes calls and runs
-- queries
abbrev pub IsValue : ResolvedExpr → Known → Row → Type 0
IsValue x k row = Valued Within x.typed.tree row (value_of k)

-- over the variables of the newest call
abbrev pub HasValue : ResolvedExpr → Known → World → Type 0
HasValue x k w = IsValue x k (row_of w.frame)

-- a condition that was resolved is true or not; without one there is a turn
abbrev pub IsAsked : Option ResolvedExpr → Bool → World → Type 0
IsAsked None b w = b ≡ true
IsAsked (Some x) b w = HasValue x (Truth b) w

-- ---- statements

-- how statements ended, if they were done
abbrev pub outcome_of : End → Option Outcome
outcome_of end.Next = Some outcome.Next
outcome_of end.Exit = Some (jumped jump.Exit None)
outcome_of end.Continue = Some (jumped jump.Continue None)
outcome_of (end.Return k) = Some (outcome.Return (value_of k))
outcome_of end.Left = None

-- each of these wherever there is room for the steps that are left

-- statements, one after another
abbrev pub AllCompute : List Statement → Outcome → (old new : World) → Type 0
AllCompute ss o old new =
    (room : ℕ) → old.steps ≤ room
    → Computes (all (runner_for do_bodies room) ss old) (ends o new) old new

-- a statement
abbrev pub OneComputes : Statement → Outcome → (old new : World) → Type 0
OneComputes s o old new =
    (room : ℕ) → old.steps ≤ room
    → Computes (run_within do_bodies room (statement s) old) (ends o new) old new

-- what it does behind its step
abbrev pub FormComputes : Layer → Outcome → (old new : World) → Type 0
FormComputes k o old new =
    (room : ℕ) (at : Spot) → old.steps ≤ room
    → Computes (form (runner_for do_bodies room) at k old) (ends o new) old new

-- IF, as far as its branches are left
abbrev pub BranchesCompute : List Branch → Option Otherwise → Outcome → (old new : World) → Type 0
BranchesCompute bs otherwise o old new =
    (room : ℕ) (at : Spot) → old.steps ≤ room
    → Computes (branches (runner_for do_bodies room) at bs otherwise old) (ends o new) old new
