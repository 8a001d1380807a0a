-- A task's step, and what it does behind it.
use Rattle.std.proofs.Common.{◌≡◌, ◌≤◌, ◌-◌, ◌∙◌, ℕ, zero, suc, true, false, ap, arith, refl, subst, sym}
use Rattle.pl_base.specs.States.{QUERY_CANCELED}
use Rattle.pl_bodies.specs.declared.statement.Body.{Body}
use Rattle.pl_bodies.specs.declared.statement.Statement.{Statement, out-Statement}
use Rattle.pl_bodies.specs.declared.statement.StatementKind.{out-StatementKind}
use Rattle.pl_control.proofs.of_pl_engine.Joins.{Lawful, becomes, start, step}
use Rattle.pl_control.specs.pl_engine.Answers.{Partway}
use Rattle.pl_control.specs.pl_engine.Engines.{Took, world}
use Rattle.pl_control.specs.pl_engine.Texts.{do_bodies}
use Rattle.pl_control.specs.pl_engine.declared.engine.Engine.{Engine}
use Rattle.pl_control.specs.pl_engine.declared.port.Port.{Ghosts}
use Rattle.pl_world.specs.Blocks.{block}
use Rattle.pl_world.specs.Errors.{Spot, raised}
use Rattle.pl_world.specs.Running.{Runner, Task, body, spot_of, statement, stepped, stepped_by}
use Rattle.pl_world.specs.Statements.{form, run_within, runner_for, task_form}
use Rattle.pl_world.specs.World.{Ran, World}
use Rattle.pl_world.specs.declared.outcome.Outcome.{Outcome}

-- ---- the meaning

one_more : (n : ℕ) (t : Task) (w : World) → run_within do_bodies (suc n) t w ≡ stepped (spot_of t) w (λ w. task_form (runner_for do_bodies n) t w)
unfolding run_within
one_more n t w = refl

no_step : (at : Spot) (w : World) (k : World → Ran Outcome) → w.steps ≡ 0 → stepped at w k ≡ raised QUERY_CANCELED at w
unfolding stepped
no_step at w k none = ap (λ (n : ℕ). stepped_by n at w k) none

canceled : (room : ℕ) (t : Task) (w : World) → w.steps ≡ 0 → run_within do_bodies room t w ≡ raised QUERY_CANCELED (spot_of t) w
unfolding run_within
canceled zero t w none = refl
canceled (suc n) t w none = no_step (spot_of t) w (λ w. task_form (runner_for do_bodies n) t w) none

pub of_body : (r : Runner) (b : Body) (w : World) → task_form r (body b) w ≡ block r (spot_of (body b)) b.block w
unfolding task_form
of_body r b w = refl

pub of_statement : (r : Runner) (s : Statement) (w : World) → task_form r (statement s) w ≡ form r (spot_of (statement s)) (out-StatementKind (out-Statement s).kind) w
unfolding task_form
of_statement r s w = refl

-- ---- the step

module _ {P : Type 0} {port : Ghosts P} (law : Lawful port) (room : ℕ) (t : Task) (old mid : Engine) (p : P) (fits : port.fits (world old).last p) where
  begun : Partway port (run_within do_bodies room t (world old)) (run_within do_bodies room t (world old)) old old p p
  begun = start law (run_within do_bodies room t (world old)) old p fits

  -- none is left
  pub without_step : Took false old mid → Partway port (run_within do_bodies room t (world old)) (raised QUERY_CANCELED (spot_of t) (world mid)) old mid p p
  without_step took = subst (λ (e : Engine). Partway port (run_within do_bodies room t (world old)) (raised QUERY_CANCELED (spot_of t) (world e)) old e p p) (sym took.1)
      (becomes law begun (canceled room t (world old) took.0))

  -- one was taken
  pub behind_step : (world old).steps ≤ room → Took true old mid → Partway port (run_within do_bodies room t (world old)) (task_form (runner_for do_bodies (room - 1)) t (world mid)) old mid p p
  behind_step le took =
      let taken : (world old).steps ≡ suc (world mid).steps = took.0 in
      let more : room ≡ suc (room - 1) = omega arith in
      step law (spot_of t) (λ w. task_form (runner_for do_bodies (room - 1)) t w)
      (becomes law begun (ap (λ (n : ℕ). run_within do_bodies n t (world old)) more ∙ one_more (room - 1) t (world old))) took
