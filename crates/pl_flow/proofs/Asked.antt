-- Conditions and bounds, and what goes on with their answers.
use Rattle.std.proofs.Common.{◌≡◌, ℤ, Bool, List, [], ◌∷◌, Option, Result, Ok, Err, ap, refl}
use Rattle.pl_base.specs.States.{SYNTAX_ERROR}
use Rattle.pl_engine.proofs.Joins.{Lawful, becomes, ended, on, stopped, within}
use Rattle.pl_engine.specs.Answers.{Done, Partway, Stopped}
use Rattle.pl_engine.specs.Asks.{number, truth}
use Rattle.pl_engine.specs.Engines.{world}
use Rattle.pl_engine.specs.declared.engine.Engine.{Engine}
use Rattle.pl_engine.specs.declared.port.Port.{Ghosts}
use Rattle.pl_engine.specs.declared.stop.Stop.{Stop}
use Rattle.pl_flow.proofs.Sequences.{behind_none, bound_seq, raised_seq, stride_seq, tested_seq}
use Rattle.pl_flow.specs.Answered.{number_of, truth_of}
use Rattle.pl_tree.specs.declared.tree.Expr.{Expr}
use Rattle.pl_engine.specs.pl_world.Control.{bound, stride, tested, tested_one}
use Rattle.pl_engine.specs.pl_world.Errors.{Spot}
use Rattle.pl_engine.specs.pl_world.Running.{Runner}
use Rattle.pl_engine.specs.pl_world.World.{Ran, World, and_then, ends}
use Rattle.pl_engine.specs.pl_world.declared.outcome.Outcome.{Outcome}

-- ---- what goes on with an answer

-- with what was answered, or else so it ends
abbrev pub by : {A : Type 0} → Result A Outcome → (A → World → Ran Outcome) → World → Ran Outcome
by (Ok a) k w = k a w
by (Err o) k w = ends o w

abbrev pub on_truth : (Bool → World → Ran Outcome) → Outcome → World → Ran Outcome
on_truth k o w = by (truth_of o) k w

abbrev pub on_number : (ℤ → World → Ran Outcome) → Outcome → World → Ran Outcome
on_number k o w = by (number_of o) k w

-- ---- conditions

pub tested_is : (r : Runner) (at : Spot) (e : Expr) (w : World) (k : Bool → World → Ran Outcome) → tested r at e w k ≡ and_then (tested r at e w truth) (on_truth k)
tested_is r at e w k = tested_seq (on_truth k) (λ f w. refl) r at e w k truth (λ b w. behind_none (k b w))

pub tested_one_is : (r : Runner) (at : Spot) (es : List Expr) (w : World) (k : Bool → World → Ran Outcome) → tested_one r at es w k ≡ and_then (tested_one r at es w truth) (on_truth k)
tested_one_is r at [] w k = raised_seq (on_truth k) (λ f w. refl) SYNTAX_ERROR at w
tested_one_is r at (e ∷ []) w k = tested_is r at e w k
tested_one_is r at (e ∷ f ∷ es) w k = raised_seq (on_truth k) (λ f w. refl) SYNTAX_ERROR at w

-- ---- numbers

pub bound_is : (r : Runner) (at : Spot) (e : Expr) (w : World) (k : ℤ → World → Ran Outcome) → bound r at e w k ≡ and_then (bound r at e w number) (on_number k)
bound_is r at e w k = bound_seq (on_number k) (λ f w. refl) r at e w k number (λ z w. behind_none (k z w))

pub stride_is : (r : Runner) (at : Spot) (e : Option Expr) (w : World) (k : ℤ → World → Ran Outcome) → stride r at e w k ≡ and_then (stride r at e w number) (on_number k)
stride_is r at e w k = stride_seq (on_number k) (λ f w. refl) r at e w k number (λ z w. behind_none (k z w))

-- ---- behind an answer

module _ {P : Type 0} {port : Ghosts P} (law : Lawful port) {A : Type 0} {whole asked : Ran Outcome} {old mid : Engine} {p m : P} (of : Outcome → Result A Outcome) (k : A → World → Ran Outcome)
    (w : Partway port whole (and_then asked (λ o w. by (of o) k w)) old mid p m) where
  pub asked_on : {new : Engine} {q : P} (o : Outcome) (a : A) → Done port asked o mid new m q → of o ≡ Ok a → Partway port whole (k a (world new)) old new p q
  asked_on {new} {q} o a d is = becomes law (on law (λ o w. by (of o) k w) w d) (ap (λ (x : Result A Outcome). by x k (world new)) is)

  pub asked_off : {new : Engine} {q : P} (o end : Outcome) → Done port asked o mid new m q → of o ≡ Err end → Done port whole end old new p q
  asked_off {new} {q} o end d is = ended law (becomes law (on law (λ o w. by (of o) k w) w d) (ap (λ (x : Result A Outcome). by x k (world new)) is)) refl

  pub asked_stopped : {q : P} {stop : Stop} → Stopped port asked stop mid m q → Stopped port whole stop old p q
  asked_stopped s = stopped law w (within law (λ o w. by (of o) k w) s)
