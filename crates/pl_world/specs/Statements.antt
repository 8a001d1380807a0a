-- What each statement does: PostgreSQL manual, "PL/pgSQL". One equation a form; each resolves what
-- it names, by a word of its own, and then acts. A form that a later part of the language brings is
-- 0A000, and is refused where a body is made.
use Rattle.std.specs.Prelude.{ℕ, zero, suc, List, [], Option, Some, None}
use Rattle.pl_base.specs.States.{FEATURE_NOT_SUPPORTED, QUERY_CANCELED}
use Rattle.pl_bodies.specs.declared.simple.Change.{Change}
use Rattle.pl_bodies.specs.declared.simple.IntoClause.{IntoClause}
use Rattle.pl_bodies.specs.declared.simple.Simple.{Simple}
use Rattle.pl_bodies.specs.declared.simple.Simple.TheVariants as simple
use Rattle.pl_bodies.specs.declared.simple.Target.{Target}
use Rattle.pl_bodies.specs.declared.statement.Block.{Block}
use Rattle.pl_bodies.specs.declared.statement.Branch.{Branch}
use Rattle.pl_bodies.specs.declared.statement.CaseArm.{CaseArm}
use Rattle.pl_bodies.specs.declared.statement.Handler.{Handler}
use Rattle.pl_bodies.specs.declared.statement.Loop.{Loop, out-Loop}
use Rattle.pl_bodies.specs.declared.statement.LoopHead.{LoopHead}
use Rattle.pl_bodies.specs.declared.statement.LoopHead.TheVariants as head
use Rattle.pl_bodies.specs.declared.statement.Otherwise.{Otherwise}
use Rattle.pl_bodies.specs.declared.statement.Statement.{Statement, out-Statement}
use Rattle.pl_bodies.specs.declared.statement.StatementKind.{StatementKind, out-StatementKind}
use Rattle.pl_bodies.specs.declared.statement.StatementKind.TheOpen.{StatementKind-F}
use Rattle.pl_bodies.specs.declared.statement.StatementKind.TheOpen as kind
use Rattle.pl_meaning.specs.pl_names.Names.{Name}
use Rattle.pl_meaning.specs.pl_reading.Computed.{definition_in}
use Rattle.pl_tree.specs.declared.command.Command.{Command}
use Rattle.pl_tree.specs.declared.command.Command.TheVariants as command
use Rattle.pl_tree.specs.declared.tree.Query.{Query}
use Rattle.pl_world.specs.Assigning.{assigned, diagnosed, stacked_diagnosed}
use Rattle.pl_world.specs.Blocks.{block}
use Rattle.pl_world.specs.Commands.{altered, altering, defines, performed, selected, selecting}
use Rattle.pl_world.specs.Commands.{without_destination}
use Rattle.pl_world.specs.Control.{branches, case, for_numbers, forever, jumps, loop, returns}
use Rattle.pl_world.specs.Control.{tested}
use Rattle.pl_world.specs.Errors.{Spot, raised, resolved}
use Rattle.pl_world.specs.Raising.{again, asserted, raise}
use Rattle.pl_world.specs.Resolving.{calling, placing, querying}
use Rattle.pl_world.specs.Running.{Bodies, Runner, Task, body, spot_of, statement, stepped}
use Rattle.pl_world.specs.Transactions.{commits, does, procedure_called, rolls_back}
use Rattle.pl_world.specs.World.{World, Ran, ends}
use Rattle.pl_world.specs.declared.outcome.Outcome.{Outcome}
use Rattle.pl_world.specs.declared.outcome.Outcome.TheVariants as outcome

abbrev pub waits : Spot → World → Ran Outcome
waits at w = raised FEATURE_NOT_SUPPORTED at w

-- ---- statements that hold no other

abbrev pub queries : Runner → Spot → Query → Option IntoClause → World → Ran Outcome
queries r at q None w =
    resolved (querying q w.database.objects w.frame.static) at w (λ qs.
    without_destination r at qs w)
queries r at q (Some clause) w =
    resolved (selecting q clause.targets w.database.objects w.frame.static) at w (λ s.
    selected r at clause.is_strict s w)

-- the variables of INTO
abbrev pub targets_in : Option IntoClause → List Target
targets_in None = []
targets_in (Some clause) = clause.targets

-- INSERT, UPDATE or DELETE
abbrev pub alters : Runner → Spot → Change → Option IntoClause → World → Ran Outcome
alters r at c into w =
    resolved (altering c (targets_in into) w.database.objects w.frame.static) at w (λ a.
    altered r at into a w)

-- Any other command. Queries and changes have forms of their own. A definition is what its text is
-- read as by itself.
abbrev pub command_form : Runner → Spot → Command → World → Ran Outcome
command_form r at (command.Query q) w = waits at w
command_form r at (command.Insert i) w = waits at w
command_form r at (command.Update u) w = waits at w
command_form r at (command.Delete d) w = waits at w
command_form r at (command.Define d source) w =
    defines outcome.Fail outcome.Next at (definition_in source) source w
command_form r at (command.Do language text) w = does r at language text w
command_form r at (command.Call name arguments) w =
    resolved (calling name arguments w.database.objects w.frame.static) at w (λ c.
    procedure_called r at c w)
command_form r at command.Begin w = waits at w
command_form r at command.StartTransaction w = waits at w
command_form r at command.Commit w = waits at w
command_form r at command.Rollback w = waits at w
command_form r at (command.Savepoint name) w = waits at w
command_form r at (command.Release name) w = waits at w
command_form r at (command.RollbackTo name) w = waits at w

unfoldable pub simple_form : Runner → Spot → Simple → World → Ran Outcome
simple_form r at (simple.Assign target value) w =
    resolved (placing target value w.database.objects w.frame.static) at w (λ p.
    assigned r at p w)
simple_form r at simple.Null w = ends outcome.Next w
simple_form r at simple.Commit w = commits at w
simple_form r at simple.Rollback w = rolls_back at w
simple_form r at (simple.Perform query) w =
    resolved (querying query w.database.objects w.frame.static) at w (λ qs.
    performed r at qs w)
simple_form r at (simple.Query query into) w = queries r at query into w
simple_form r at (simple.Change c into) w = alters r at c into w
simple_form r at (simple.Command c) w = command_form r at c w
simple_form r at (simple.Jump jump label condition) w = jumps r at jump label condition w
simple_form r at (simple.Return value) w = returns r at value w
simple_form r at (simple.ReturnNext value) w = waits at w
simple_form r at (simple.ReturnQuery query) w = waits at w
simple_form r at (simple.ReturnExecute command) w = waits at w
simple_form r at simple.RaiseAgain w = again at w
simple_form r at (simple.Raise x) w = raise r at x w
simple_form r at (simple.Assert condition message) w = asserted r at condition message w
simple_form r at (simple.Execute command into) w = waits at w
simple_form r at (simple.Open cursor source) w = waits at w
simple_form r at (simple.Fetch cursor direction targets) w = waits at w
simple_form r at (simple.Move cursor motion) w = waits at w
simple_form r at (simple.Close cursor) w = waits at w
simple_form r at (simple.GetDiagnostics targets) w = diagnosed targets at w
simple_form r at (simple.GetStackedDiagnostics targets) w = stacked_diagnosed targets at w

-- ---- statements that hold others

-- WHILE asks its condition before each turn
unfoldable pub loop_form : Runner → Spot → Option Name → LoopHead → List Statement → World
    → Ran Outcome
loop_form r at label head.Forever ss w = loop r at label forever ss w
loop_form r at label (head.While e) ss w = loop r at label (tested r at e) ss w
loop_form r at label (head.Range variable is_reverse first last step) ss w =
    for_numbers r at label variable is_reverse first last step ss w
loop_form r at label (head.Rows targets source) ss w = waits at w
loop_form r at label (head.Cursor variable cursor arguments) ss w = waits at w

abbrev pub one_loop : Runner → Spot → Loop → World → Ran Outcome
one_loop r at l w = loop_form r at (out-Loop l).label (out-Loop l).head (out-Loop l).statements w

-- one level of a statement
abbrev pub Layer : Type 0
Layer = StatementKind-F StatementKind Block Branch CaseArm Handler Loop Otherwise Statement

unfoldable pub form : Runner → Spot → Layer → World → Ran Outcome
form r at (kind.Block b) w = block r at b w
form r at (kind.If bs otherwise) w = branches r at bs otherwise w
form r at (kind.Case operand arms otherwise) w = case r at operand arms otherwise w
form r at (kind.Loop l) w = one_loop r at l w
form r at (kind.Simple s) w = simple_form r at s w

-- ---- all of them

unfoldable pub task_form : Runner → Task → World → Ran Outcome
task_form r (statement s) w =
    form r (spot_of (statement s)) (out-StatementKind (out-Statement s).kind) w
task_form r (body b) w = block r (spot_of (body b)) b.block w

abbrev pub runner : Bodies → ℕ → (Task → World → Ran Outcome) → Runner
runner bodies room run = record { bodies = bodies; room = room; run = run }

-- What a task does, which takes a step. The number bounds how deep tasks stand inside of tasks and
-- how many turns a loop has: each of them takes a step, so the steps that are left suffice.
unfoldable pub run_within : Bodies → ℕ → Task → World → Ran Outcome
run_within bodies zero t w = raised QUERY_CANCELED (spot_of t) w
run_within bodies (suc n) t w =
    stepped (spot_of t) w (λ w. task_form (runner bodies n (run_within bodies n)) t w)

-- what runs in a world with so many steps left
abbrev pub runner_for : Bodies → ℕ → Runner
runner_for bodies steps = runner bodies steps (run_within bodies steps)
