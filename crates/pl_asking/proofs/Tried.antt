-- The arms of a CASE with an operand.
use Rattle.std.proofs.Common.{◌≡◌, ◌<◌, ◌≤◌, ◌+◌, ◌∙◌, ℕ, Bool, List, [], ◌∷◌, ◌++◌, Option, Some, ap, drop, drop_of_length-le, get_or, if◌then◌else◌, length, refl, sym}
use Rattle.pl_asking.proofs.Acts.{front}
use Rattle.pl_asking.proofs.Valued.{evaluated_is, on_value}
use Rattle.pl_asking.specs.Values.{read_match}
use Rattle.pl_calling.specs.Reading.{read_beside}
use Rattle.pl_base.specs.declared.types.Ty.{Ty}
use Rattle.pl_base.specs.declared.value.Value.{Value}
use Rattle.pl_bodies.specs.declared.statement.CaseArm.{CaseArm, out-CaseArm}
use Rattle.pl_bodies.specs.declared.statement.Otherwise.{Otherwise}
use Rattle.pl_calling.proofs.of_pl_engine.Joins.{Lawful, becomes, start}
use Rattle.pl_calling.specs.pl_engine.Answers.{Partway}
use Rattle.pl_calling.specs.pl_engine.Asks.{returned}
use Rattle.pl_calling.specs.pl_engine.Engines.{world}
use Rattle.pl_calling.specs.pl_engine.declared.engine.Engine.{Engine}
use Rattle.pl_calling.specs.pl_engine.declared.port.Port.{Ghosts}
use Rattle.pl_flow.proofs.Asked.{on_truth}
use Rattle.pl_flow.proofs.Sequences.{behind_none, read_seq, resolved_seq}
use Rattle.pl_direct.specs.pl_scope.declared.resolve.ResolvedExpr.{ResolvedExpr}
use Rattle.pl_tree.specs.declared.tree.Expr.{Expr}
use Rattle.pl_typing.specs.Typing.{as_text_type}
use Rattle.pl_value.specs.Combined.{is_true}
use Rattle.pl_value.specs.Frames.{Row}
use Rattle.pl_world.specs.Control.{arms_tried, case, matched, not_found}
use Rattle.pl_world.specs.Errors.{Spot, resolved}
use Rattle.pl_world.specs.Expressions.{evaluated, read, value_over}
use Rattle.pl_world.specs.Resolving.{matching, reading}
use Rattle.pl_world.specs.Running.{Runner, all}
use Rattle.pl_world.specs.Variables.{row_of}
use Rattle.pl_world.specs.World.{Ran, World, and_then}
use Rattle.pl_world.specs.declared.outcome.Outcome.{Outcome}

abbrev pub beside_it : Runner → Spot → Row → World → ResolvedExpr → Ran Outcome
beside_it r at operand w x = read_beside r at x operand w

module _ (r : Runner) (at : Spot) (t : Ty) (v : Value) where
  matched_is : (values : List Expr) (w : World) (k : Bool → World → Ran Outcome) → matched r at t v values w k ≡ and_then (read_match r at t (v ∷ []) values w) (on_truth k)
  unfolding matched
  matched_is values w k = resolved_seq (on_truth k) (λ f w. refl) (matching t values w.database.objects w.frame.static) at w
      (λ x. read (value_over r at x (row_of w.frame ++ v ∷ []) w) at (λ b w. k (is_true b) w)) (λ x. read (value_over r at x (row_of w.frame ++ v ∷ []) w) at returned)
      (λ x. read_seq (on_truth k) (λ f w. refl) (value_over r at x (row_of w.frame ++ v ∷ []) w) at (λ b w. k (is_true b) w) returned (λ b w. behind_none (k (is_true b) w)))

  module _ (otherwise : Option Otherwise) where
    abbrev pub arm_next : CaseArm → List CaseArm → Bool → World → Ran Outcome
    arm_next a arms is w = if is then all r (out-CaseArm a).statements w else arms_tried r at t v arms otherwise w

    arms_cons : (a : CaseArm) (arms : List CaseArm) (w : World) → arms_tried r at t v (a ∷ arms) otherwise w ≡ matched r at t v (out-CaseArm a).values w (arm_next a arms)
    unfolding arms_tried
    arms_cons a arms w = refl

    arms_nil : (w : World) → arms_tried r at t v [] otherwise w ≡ not_found r at otherwise w
    unfolding arms_tried
    arms_nil w = refl

    module _ {P : Type 0} {port : Ghosts P} (law : Lawful port) {whole : Ran Outcome} {old mid : Engine} {p m : P} (arms : List CaseArm) (i : ℕ) (way : Partway port whole (arms_tried r at t v (drop i arms) otherwise (world mid)) old mid p m) where
      pub arm_here : (a : CaseArm) (operand : Row) (xs : List Expr) → i < length arms → a ≡ get_or arms i a → operand ≡ v ∷ [] → xs ≡ (out-CaseArm a).values
          → Partway port whole (and_then (read_match r at t operand xs (world mid)) (on_truth (arm_next a (drop (i + 1) arms)))) old mid p m
      arm_here a operand xs lt is one same = becomes law way (ap (λ (ys : List CaseArm). arms_tried r at t v ys otherwise (world mid)) (front arms i a lt is)
          ∙ (arms_cons a (drop (i + 1) arms) (world mid) ∙ (ap (λ (xs : List Expr). matched r at t v xs (world mid) (arm_next a (drop (i + 1) arms))) (sym same)
          ∙ (matched_is xs (world mid) (arm_next a (drop (i + 1) arms))
          ∙ ap (λ (operand : Row). and_then (read_match r at t operand xs (world mid)) (on_truth (arm_next a (drop (i + 1) arms)))) (sym one)))))

      pub arms_end : length arms ≤ i → Partway port whole (not_found r at otherwise (world mid)) old mid p m
      arms_end le = becomes law way (ap (λ (ys : List CaseArm). arms_tried r at t v ys otherwise (world mid)) (drop_of_length-le arms le) ∙ arms_nil (world mid))

-- ---- the operand

abbrev pub operand_next : Runner → Spot → Ty → List CaseArm → Option Otherwise → Value → World → Ran Outcome
operand_next r at t arms otherwise v w = arms_tried r at t v arms otherwise w

abbrev pub operand_read : Runner → Spot → List CaseArm → Option Otherwise → World → ResolvedExpr → Ran Outcome
operand_read r at arms otherwise w x = evaluated r at x w (operand_next r at (as_text_type x.typed.ty) arms otherwise)

pub operand_here : {P : Type 0} {port : Ghosts P} (law : Lawful port) (r : Runner) (at : Spot) (t : Ty) (arms : List CaseArm) (otherwise : Option Otherwise) (x : ResolvedExpr) (e : Engine) (p : P) → port.fits (world e).last p
    → Partway port (evaluated r at x (world e) (operand_next r at t arms otherwise)) (and_then (evaluated r at x (world e) returned) (on_value (operand_next r at t arms otherwise))) e e p p
operand_here law r at t arms otherwise x e p fits =
    becomes law (start law (evaluated r at x (world e) (operand_next r at t arms otherwise)) e p fits) (evaluated_is r at x (world e) (operand_next r at t arms otherwise))

pub case_is : (r : Runner) (at : Spot) (e : Expr) (arms : List CaseArm) (otherwise : Option Otherwise) (w : World)
    → case r at (Some e) arms otherwise w ≡ resolved (reading e w.database.objects w.frame.static) at w (operand_read r at arms otherwise w)
unfolding case
case_is r at e arms otherwise w = refl
