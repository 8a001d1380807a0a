-- EXIT and CONTINUE, as they begin.
use Rattle.std.proofs.Common.{◌≡◌, ◌∙◌, Bool, Option, Some, None, ap, if◌then◌else◌, refl, sym}
use Rattle.pl_bodies.specs.declared.simple.Jump.{Jump}
use Rattle.pl_engine.proofs.Joins.{Lawful, becomes, ended, start}
use Rattle.pl_engine.specs.Answers.{Done, Partway}
use Rattle.pl_engine.specs.Asks.{truth}
use Rattle.pl_engine.specs.Engines.{world}
use Rattle.pl_engine.specs.declared.engine.Engine.{Engine}
use Rattle.pl_engine.specs.declared.port.Port.{Ghosts}
use Rattle.pl_flow.proofs.Asked.{on_truth, tested_is}
use Rattle.pl_names.specs.Names.{Name}
use Rattle.pl_tree.specs.declared.tree.Expr.{Expr}
use Rattle.pl_engine.specs.pl_world.Control.{jumped, jumps, tested}
use Rattle.pl_engine.specs.pl_world.Errors.{Spot}
use Rattle.pl_engine.specs.pl_world.Running.{Runner}
use Rattle.pl_engine.specs.pl_world.World.{Ran, World, and_then, ends}
use Rattle.pl_engine.specs.pl_world.declared.outcome.Outcome.{Outcome}
use Rattle.pl_engine.specs.pl_world.declared.outcome.Outcome.TheVariants as outcome

-- what goes on with an answer
abbrev pub jump_next : Jump → Option Name → Bool → World → Ran Outcome
jump_next j label is w = if is then ends (jumped j label) w else ends outcome.Next w

jump_always : (r : Runner) (at : Spot) (j : Jump) (label : Option Name) (w : World) → jumps r at j label None w ≡ ends (jumped j label) w
unfolding jumps
jump_always r at j label w = refl

jump_if : (r : Runner) (at : Spot) (j : Jump) (label : Option Name) (x : Expr) (w : World) → jumps r at j label (Some x) w ≡ tested r at x w (jump_next j label)
unfolding jumps
jump_if r at j label x w = refl

-- ---- the forms

module _ {P : Type 0} {port : Ghosts P} (law : Lawful port) (r : Runner) (at : Spot) (e : Engine) (p : P) (fits : port.fits (world e).last p) where
  pub jump_here : (j : Jump) (label : Option Name) (condition : Option Expr) (x : Expr) → condition ≡ Some x
      → Partway port (jumps r at j label condition (world e)) (and_then (tested r at x (world e) truth) (on_truth (jump_next j label))) e e p p
  jump_here j label condition x is = becomes law (start law (jumps r at j label condition (world e)) e p fits)
      (ap (λ (c : Option Expr). jumps r at j label c (world e)) is ∙ (jump_if r at j label x (world e) ∙ tested_is r at x (world e) (jump_next j label)))

  pub jump_done : (j : Jump) (label : Option Name) (condition : Option Expr) (o : Outcome) → condition ≡ None → o ≡ jumped j label → Done port (jumps r at j label condition (world e)) o e e p p
  jump_done j label condition o none is = ended law (becomes law (start law (jumps r at j label condition (world e)) e p fits)
      (ap (λ (c : Option Expr). jumps r at j label c (world e)) none ∙ (jump_always r at j label (world e) ∙ ap (λ (x : Outcome). ends x (world e)) (sym is)))) refl
