-- Rounds and FOR, as they begin.
use Rattle.std.proofs.Common.{◌≡◌, ◌∙◌, ℤ, pos, int_le, Bool, true, false, List, Option, Some, None, ap, if◌then◌else◌, refl}
use Rattle.pl_base.specs.States.{INVALID_PARAMETER_VALUE, QUERY_CANCELED}
use Rattle.pl_bodies.specs.declared.statement.Statement.{Statement}
use Rattle.pl_engine.proofs.Joins.{Lawful, becomes, start}
use Rattle.pl_engine.specs.Answers.{Partway}
use Rattle.pl_engine.specs.Asks.{number, truth}
use Rattle.pl_engine.specs.Engines.{world}
use Rattle.pl_engine.specs.declared.engine.Engine.{Engine}
use Rattle.pl_engine.specs.declared.port.Port.{Ghosts}
use Rattle.pl_flow.proofs.Asked.{bound_is, on_number, on_truth, tested_is}
use Rattle.pl_loops.specs.Turns.{goes}
use Rattle.pl_names.specs.Names.{Name}
use Rattle.pl_tree.specs.declared.tree.Expr.{Expr}
use Rattle.pl_engine.specs.pl_world.Control.{bound, for_numbers, numbers, over_numbers, positive, stride, tested, turn}
use Rattle.pl_engine.specs.pl_world.Errors.{Spot, raised}
use Rattle.pl_engine.specs.pl_world.Running.{Runner}
use Rattle.pl_engine.specs.pl_world.World.{Ran, World, and_then, ends}
use Rattle.pl_engine.specs.pl_world.declared.outcome.Outcome.{Outcome}
use Rattle.pl_engine.specs.pl_world.declared.outcome.Outcome.TheVariants as outcome

-- ---- what goes on with an answer

abbrev pub round_next : Runner → Spot → Option Name → List Statement → Bool → World → Ran Outcome
round_next r at label body is w = if is then turn r at label body w goes else ends outcome.Next w

abbrev pub last_next : Spot → Bool → World → Ran Outcome
last_next at is w = if is then raised QUERY_CANCELED at w else ends outcome.Next w

module _ (r : Runner) (at : Spot) (label : Option Name) (variable : Name) (is_reverse : Bool) (body : List Statement) where
  abbrev pub over_next : ℤ → ℤ → ℤ → World → Ran Outcome
  over_next first last by w = over_numbers r at label variable body (numbers is_reverse first last by) w

  abbrev pub by_next : ℤ → ℤ → ℤ → World → Ran Outcome
  by_next first last by w = positive by at w (over_next first last)

  abbrev pub last_bound : Option Expr → ℤ → ℤ → World → Ran Outcome
  last_bound step first last w = stride r at step w (over_next first last)

  abbrev pub first_bound : Expr → Option Expr → ℤ → World → Ran Outcome
  first_bound last step first w = bound r at last w (last_bound step first)

  for_is : (first last : Expr) (step : Option Expr) (w : World) → for_numbers r at label variable is_reverse first last step body w ≡ bound r at first w (first_bound last step)
  unfolding for_numbers
  for_is first last step w = refl

-- ---- the forms

module _ {P : Type 0} {port : Ghosts P} (law : Lawful port) (r : Runner) (at : Spot) (e : Engine) (p : P) (fits : port.fits (world e).last p) where
  -- a condition, and a bound
  pub tested_here : (x : Expr) (k : Bool → World → Ran Outcome) → Partway port (tested r at x (world e) k) (and_then (tested r at x (world e) truth) (on_truth k)) e e p p
  tested_here x k = becomes law (start law (tested r at x (world e) k) e p fits) (tested_is r at x (world e) k)

  pub bound_here : (x : Expr) (k : ℤ → World → Ran Outcome) → Partway port (bound r at x (world e) k) (and_then (bound r at x (world e) number) (on_number k)) e e p p
  bound_here x k = becomes law (start law (bound r at x (world e) k) e p fits) (bound_is r at x (world e) k)

  -- FOR
  pub for_here : (label : Option Name) (variable : Name) (is_reverse : Bool) (body : List Statement) (first last : Expr) (step : Option Expr)
      → Partway port (for_numbers r at label variable is_reverse first last step body (world e)) (and_then (bound r at first (world e) number) (on_number (first_bound r at label variable is_reverse body last step))) e e p p
  for_here label variable is_reverse body first last step = becomes law (start law (for_numbers r at label variable is_reverse first last step body (world e)) e p fits)
      (for_is r at label variable is_reverse body first last step (world e) ∙ bound_is r at first (world e) (first_bound r at label variable is_reverse body last step))

  pub stride_here : (step : Option Expr) (x : Expr) (k : ℤ → World → Ran Outcome) → step ≡ Some x
      → Partway port (stride r at step (world e) k) (and_then (bound r at x (world e) number) (on_number (λ z w. positive z at w k))) e e p p
  stride_here step x k is = becomes law (start law (stride r at step (world e) k) e p fits)
      (ap (λ (s : Option Expr). stride r at s (world e) k) is ∙ bound_is r at x (world e) (λ z w. positive z at w k))

  pub stride_one : (step : Option Expr) (k : ℤ → World → Ran Outcome) → step ≡ None → Partway port (stride r at step (world e) k) (positive (pos 1) at (world e) k) e e p p
  stride_one step k none = becomes law (start law (stride r at step (world e) k) e p fits) (ap (λ (s : Option Expr). stride r at s (world e) k) none)

  pub positive_here : (z : ℤ) (k : ℤ → World → Ran Outcome) → int_le z (pos 0) ≡ false → Partway port (positive z at (world e) k) (k z (world e)) e e p p
  positive_here z k is = becomes law (start law (positive z at (world e) k) e p fits) (ap (λ (b : Bool). if b then raised INVALID_PARAMETER_VALUE at (world e) else k z (world e)) is)

  pub positive_not : (z : ℤ) (k : ℤ → World → Ran Outcome) → int_le z (pos 0) ≡ true → Partway port (positive z at (world e) k) (raised INVALID_PARAMETER_VALUE at (world e)) e e p p
  positive_not z k is = becomes law (start law (positive z at (world e) k) e p fits) (ap (λ (b : Bool). if b then raised INVALID_PARAMETER_VALUE at (world e) else k z (world e)) is)
