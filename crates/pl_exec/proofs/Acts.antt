-- Forms that neither evaluate nor run statements, and those that wait.
use Rattle.std.proofs.Common.{◌≡◌, ◌⊎◌, inl, inr, List, Option, ap, sym, ◌∙◌}
use Rattle.pl_bodies.specs.declared.simple.Direction.{Direction}
use Rattle.pl_bodies.specs.declared.simple.Dynamic.{Dynamic}
use Rattle.pl_bodies.specs.declared.simple.IntoClause.{IntoClause}
use Rattle.pl_bodies.specs.declared.simple.Motion.{Motion}
use Rattle.pl_bodies.specs.declared.simple.OpenSource.{OpenSource}
use Rattle.pl_bodies.specs.declared.simple.Simple.{Simple}
use Rattle.pl_bodies.specs.declared.simple.Simple.TheVariants as simple
use Rattle.pl_bodies.specs.declared.simple.StackedTarget.{StackedTarget}
use Rattle.pl_bodies.specs.declared.simple.Target.{Target}
use Rattle.pl_bodies.specs.declared.statement.LoopHead.{LoopHead}
use Rattle.pl_bodies.specs.declared.statement.LoopHead.TheVariants as head
use Rattle.pl_bodies.specs.declared.statement.RowSource.{RowSource}
use Rattle.pl_bodies.specs.declared.statement.Statement.{Statement}
use Rattle.pl_control.proofs.of_pl_engine.Joins.{Lawful, becomes, start}
use Rattle.pl_control.specs.pl_engine.Answers.{Partway}
use Rattle.pl_control.specs.pl_engine.Engines.{world}
use Rattle.pl_control.specs.pl_engine.declared.engine.Engine.{Engine}
use Rattle.pl_control.specs.pl_engine.declared.port.Port.{Ghosts}
use Rattle.pl_names.specs.Names.{Name}
use Rattle.pl_tree.specs.declared.command.Command.{Command}
use Rattle.pl_tree.specs.declared.command.Command.TheVariants as command
use Rattle.pl_tree.specs.declared.command.Delete.{Delete}
use Rattle.pl_tree.specs.declared.command.Insert.{Insert}
use Rattle.pl_tree.specs.declared.command.Update.{Update}
use Rattle.pl_tree.specs.declared.tree.Argument.{Argument}
use Rattle.pl_tree.specs.declared.tree.Expr.{Expr}
use Rattle.pl_tree.specs.declared.tree.Query.{Query}
use Rattle.pl_world.specs.Assigning.{diagnosed, stacked_diagnosed}
use Rattle.pl_world.specs.Errors.{Spot, resolved}
use Rattle.pl_world.specs.Raising.{again}
use Rattle.pl_world.specs.Resolving.{calling}
use Rattle.pl_world.specs.Running.{Runner}
use Rattle.pl_world.specs.Statements.{command_form, loop_form, simple_form, waits}
use Rattle.pl_world.specs.Transactions.{procedure_called, rolls_back}
use Rattle.pl_world.specs.World.{Ran, World, ends}
use Rattle.pl_world.specs.declared.outcome.Outcome.{Outcome}
use Rattle.pl_world.specs.declared.outcome.Outcome.TheVariants as outcome

-- the form may be written otherwise
pub begun : {P : Type 0} {port : Ghosts P} (law : Lawful port) (form rest : Ran Outcome) (e : Engine) (p : P) → port.fits (world e).last p → form ≡ rest → Partway port form rest e e p p
begun law form rest e p fits is = becomes law (start law form e p fits) is

-- ---- acts

module _ (r : Runner) (at : Spot) (w : World) {s : Simple} where
  pub of_null : s ≡ simple.Null → simple_form r at s w ≡ ends outcome.Next w
  unfolding simple_form
  of_null is = ap (λ (s : Simple). simple_form r at s w) is

  pub of_rollback : s ≡ simple.Rollback → simple_form r at s w ≡ rolls_back at w
  unfolding simple_form
  of_rollback is = ap (λ (s : Simple). simple_form r at s w) is

  pub of_again : s ≡ simple.RaiseAgain → simple_form r at s w ≡ again at w
  unfolding simple_form
  of_again is = ap (λ (s : Simple). simple_form r at s w) is

  pub of_diagnostics : (ts all : List Target) → s ≡ simple.GetDiagnostics all → ts ≡ all → simple_form r at s w ≡ diagnosed ts at w
  unfolding simple_form
  of_diagnostics ts all is same = ap (λ (s : Simple). simple_form r at s w) is ∙ ap (λ (ts : List Target). diagnosed ts at w) (sym same)

  pub of_stacked : (ts all : List StackedTarget) → s ≡ simple.GetStackedDiagnostics all → ts ≡ all → simple_form r at s w ≡ stacked_diagnosed ts at w
  unfolding simple_form
  of_stacked ts all is same = ap (λ (s : Simple). simple_form r at s w) is ∙ ap (λ (ts : List StackedTarget). stacked_diagnosed ts at w) (sym same)

-- ---- what waits

pub of_waiting : (r : Runner) (at : Spot) (w : World) {s : Simple}
    → ((x : Option Expr) × (s ≡ simple.ReturnNext x))
    ⊎ (((q : Query) × (s ≡ simple.ReturnQuery q))
    ⊎ (((d : Dynamic) × (s ≡ simple.ReturnExecute d))
    ⊎ (((d : Dynamic) × (into : Option IntoClause) × (s ≡ simple.Execute d into))
    ⊎ (((c : Name) × (from : OpenSource) × (s ≡ simple.Open c from))
    ⊎ (((c : Name) × (to : Direction) × (ts : List Target) × (s ≡ simple.Fetch c to ts))
    ⊎ (((c : Name) × (to : Motion) × (s ≡ simple.Move c to))
    ⊎ ((c : Name) × (s ≡ simple.Close c))))))))
    → simple_form r at s w ≡ waits at w
unfolding simple_form
of_waiting r at w (inl (x, is)) = ap (λ (s : Simple). simple_form r at s w) is
of_waiting r at w (inr (inl (q, is))) = ap (λ (s : Simple). simple_form r at s w) is
of_waiting r at w (inr (inr (inl (d, is)))) = ap (λ (s : Simple). simple_form r at s w) is
of_waiting r at w (inr (inr (inr (inl (d, into, is))))) = ap (λ (s : Simple). simple_form r at s w) is
of_waiting r at w (inr (inr (inr (inr (inl (c, from, is)))))) = ap (λ (s : Simple). simple_form r at s w) is
of_waiting r at w (inr (inr (inr (inr (inr (inl (c, to, ts, is))))))) = ap (λ (s : Simple). simple_form r at s w) is
of_waiting r at w (inr (inr (inr (inr (inr (inr (inl (c, to, is)))))))) = ap (λ (s : Simple). simple_form r at s w) is
of_waiting r at w (inr (inr (inr (inr (inr (inr (inr (c, is)))))))) = ap (λ (s : Simple). simple_form r at s w) is

pub of_rows : (r : Runner) (at : Spot) (label : Option Name) (ss : List Statement) (w : World) {h : LoopHead}
    → ((ts : List Target) × (from : RowSource) × (h ≡ head.Rows ts from)) ⊎ ((v : Name) × (c : Name) × (xs : List Expr) × (h ≡ head.Cursor v c xs))
    → loop_form r at label h ss w ≡ waits at w
unfolding loop_form
of_rows r at label ss w (inl (ts, from, is)) = ap (λ (h : LoopHead). loop_form r at label h ss w) is
of_rows r at label ss w (inr (v, c, xs, is)) = ap (λ (h : LoopHead). loop_form r at label h ss w) is

-- ---- commands that stand in forms of their own, and those of transactions

module _ (r : Runner) (at : Spot) (w : World) {c : Command} where
  pub of_change : ((q : Query) × (c ≡ command.Query q)) ⊎ (((i : Insert) × (c ≡ command.Insert i)) ⊎ (((u : Update) × (c ≡ command.Update u)) ⊎ ((d : Delete) × (c ≡ command.Delete d)))) → command_form r at c w ≡ waits at w
  of_change (inl (q, is)) = ap (λ (c : Command). command_form r at c w) is
  of_change (inr (inl (i, is))) = ap (λ (c : Command). command_form r at c w) is
  of_change (inr (inr (inl (u, is)))) = ap (λ (c : Command). command_form r at c w) is
  of_change (inr (inr (inr (d, is)))) = ap (λ (c : Command). command_form r at c w) is

  pub of_transaction : (c ≡ command.Begin) ⊎ ((c ≡ command.StartTransaction) ⊎ ((c ≡ command.Commit) ⊎ ((c ≡ command.Rollback) ⊎ (((n : Name) × (c ≡ command.Savepoint n)) ⊎ (((n : Name) × (c ≡ command.Release n)) ⊎ ((n : Name) × (c ≡ command.RollbackTo n))))))) → command_form r at c w ≡ waits at w
  of_transaction (inl is) = ap (λ (c : Command). command_form r at c w) is
  of_transaction (inr (inl is)) = ap (λ (c : Command). command_form r at c w) is
  of_transaction (inr (inr (inl is))) = ap (λ (c : Command). command_form r at c w) is
  of_transaction (inr (inr (inr (inl is)))) = ap (λ (c : Command). command_form r at c w) is
  of_transaction (inr (inr (inr (inr (inl (n, is)))))) = ap (λ (c : Command). command_form r at c w) is
  of_transaction (inr (inr (inr (inr (inr (inl (n, is))))))) = ap (λ (c : Command). command_form r at c w) is
  of_transaction (inr (inr (inr (inr (inr (inr (n, is))))))) = ap (λ (c : Command). command_form r at c w) is

  pub of_call : (name : Name) (xs all : List Argument) → c ≡ command.Call name all → xs ≡ all
      → command_form r at c w ≡ resolved (calling name xs w.database.objects w.frame.static) at w (λ q. procedure_called r at q w)
  of_call name xs all is same = ap (λ (c : Command). command_form r at c w) is
      ∙ ap (λ (xs : List Argument). resolved (calling name xs w.database.objects w.frame.static) at w (λ q. procedure_called r at q w)) (sym same)
