-- What is asked first, and what goes on with its answer, as one run behind another.
use Rattle.std.proofs.Common.{◌≡◌, ◌∙◌, ℕ, zero, suc, ℤ, pos, int_le, if◌then◌else◌, Bool, true, false, List, [], ◌∷◌, ◌++◌, Option, Some, None, Result, Ok, Err, append_assoc, ap, refl, sym}
use Rattle.pl_base.specs.States.{INTERNAL_ERROR, INVALID_PARAMETER_VALUE, NULL_VALUE_NOT_ALLOWED, QUERY_CANCELED}
use Rattle.pl_base.specs.declared.fail.Fail.{Fail}
use Rattle.pl_base.specs.declared.state.State.{State}
use Rattle.pl_base.specs.declared.types.Ty.{Ty}
use Rattle.pl_base.specs.declared.types.Ty.TheVariants.{Bool as Boolean, Int as Integer}
use Rattle.pl_base.specs.declared.value.Value.{Value, Row'}
use Rattle.pl_base.specs.declared.value.Value.TheVariants as value
use Rattle.pl_tree.specs.declared.tree.Expr.{Expr}
use Rattle.pl_engine.specs.pl_scope.declared.resolve.ResolvedExpr.{ResolvedExpr}
use Rattle.pl_typing.specs.Resolved.{Resolved}
use Rattle.pl_value.specs.Combined.{is_true}
use Rattle.pl_value.specs.Reading.{Reading, got, fails}
use Rattle.pl_engine.specs.pl_world.Calls.{Within}
use Rattle.pl_engine.specs.pl_world.Control.{as_number, bound, positive, stride, tested}
use Rattle.pl_engine.specs.pl_world.Conversions.{as_truth, as_type, converted, settled}
use Rattle.pl_engine.specs.pl_world.Errors.{Spot, as_run_state, failure, place, raised, raises, resolved, resolves}
use Rattle.pl_engine.specs.pl_world.Expressions.{evaluated, failing, read, reads, value_over}
use Rattle.pl_engine.specs.pl_world.Resolving.{reading}
use Rattle.pl_engine.specs.pl_world.Running.{Runner, stepped, stepped_by}
use Rattle.pl_engine.specs.pl_world.Variables.{row_of}
use Rattle.pl_engine.specs.pl_world.World.{Event, Raised, Ran, Stepped, World, and_then, behind, ends, made}
use Rattle.pl_engine.specs.pl_world.declared.outcome.Outcome.{Outcome}
use Rattle.pl_engine.specs.pl_world.declared.outcome.Outcome.TheVariants as outcome

-- ---- runs

pub behind_none : {O : Type 0} (r : Ran O) → r ≡ behind [] r
behind_none (made w o es) = refl

behind_behind : {O : Type 0} (a b : List Event) (r : Ran O) → behind a (behind b r) ≡ behind (a ++ b) r
behind_behind a b (made w o es) = ap (λ (xs : List Event). made w o xs) (sym (append_assoc a b es))

pub and_then_behind : {A B : Type 0} (es : List Event) (r : Ran A) (k : A → World → Ran B) → behind es (and_then r k) ≡ and_then (behind es r) k
and_then_behind es (made w o fs) k = behind_behind es fs (k o w)

pub and_then_same : {A B : Type 0} (r : Ran A) (j k : A → World → Ran B) → ((o : A) (w : World) → j o w ≡ k o w) → and_then r j ≡ and_then r k
and_then_same {A} {B} (made w o es) j k same = ap (λ (x : Ran B). behind es x) (same o w)

pub and_then_assoc : {A B C : Type 0} (r : Ran A) (j : A → World → Ran B) (k : B → World → Ran C) → and_then r (λ o w. and_then (j o w) k) ≡ and_then (and_then r j) k
and_then_assoc (made w o es) j k = and_then_behind es (j o w) k

-- ---- what is asked first

-- behind an error nothing is done
module _ (on : Outcome → World → Ran Outcome) (fails_on : (f : Fail) (w : World) → on (outcome.Fail f) w ≡ ends (outcome.Fail f) w) where
  ended_seq : (f : Fail) (w : World) → ends (outcome.Fail f) w ≡ and_then (ends (outcome.Fail f) w) on
  ended_seq f w = sym (fails_on f w) ∙ behind_none (on (outcome.Fail f) w)

  raises_seq : (f : Fail) (w : World) → raises outcome.Fail f w ≡ and_then (raises outcome.Fail f w) on
  raises_seq f w = ap (λ (x : Ran Outcome). behind (Raised f ∷ []) x) (sym (fails_on f w))

  pub raised_seq : (state : State) (at : Spot) (w : World) → raised state at w ≡ and_then (raised state at w) on
  raised_seq state at w = raises_seq (failure state at w) w

  failing_seq : (f : Option Fail) (state : State) (at : Spot) (w : World) → failing outcome.Fail f state at w ≡ and_then (failing outcome.Fail f state at w) on
  failing_seq (Some f) state at w = ended_seq f w
  failing_seq None state at w = raises_seq (failure (as_run_state state) at w) w

  pub resolved_seq : {B : Type 0} (r : Resolved B) (at : Spot) (w : World) (m n : B → Ran Outcome) → ((b : B) → m b ≡ and_then (n b) on) → resolved r at w m ≡ and_then (resolved r at w n) on
  unfolding resolves
  resolved_seq (Ok b) at w m n same = same b
  resolved_seq (Err state) at w m n same = raised_seq state at w

  pub read_seq : {B : Type 0} (r : Reading Within B) (at : Spot) (m n : B → World → Ran Outcome) → ((b : B) (w : World) → m b w ≡ and_then (n b w) on) → read r at m ≡ and_then (read r at n) on
  unfolding reads
  read_seq (got b x) at m n same = ap (λ (y : Ran Outcome). behind x.told y) (same b x.world) ∙ and_then_behind x.told (n b x.world) on
  read_seq (fails state x) at m n same = ap (λ (y : Ran Outcome). behind x.told y) (failing_seq x.failure state at x.world) ∙ and_then_behind x.told (failing outcome.Fail x.failure state at x.world) on

  settled_seq : {B : Type 0} (r : Result B State) (at : Spot) (w : World) (m n : B → World → Ran Outcome) → ((b : B) (w : World) → m b w ≡ and_then (n b w) on) → settled r at w m ≡ and_then (settled r at w n) on
  settled_seq (Ok b) at w m n same = same b w
  settled_seq (Err state) at w m n same = raised_seq (as_run_state state) at w

  pub as_type_seq : (to : Ty) (v : Value) (at : Spot) (w : World) (m n : Value → World → Ran Outcome) → ((b : Value) (w : World) → m b w ≡ and_then (n b w) on) → as_type to v at w m ≡ and_then (as_type to v at w n) on
  unfolding as_type
  as_type_seq to v at w m n same = settled_seq (converted to v) at w m n same

  pub as_truth_seq : (v : Value) (at : Spot) (w : World) (m n : Bool → World → Ran Outcome) → ((b : Bool) (w : World) → m b w ≡ and_then (n b w) on) → as_truth v at w m ≡ and_then (as_truth v at w n) on
  unfolding as_truth
  as_truth_seq v at w m n same = as_type_seq Boolean v at w (λ b w. m (is_true b) w) (λ b w. n (is_true b) w) (λ b w. same (is_true b) w)

  pub evaluated_seq : (r : Runner) (at : Spot) (e : ResolvedExpr) (w : World) (m n : Value → World → Ran Outcome) → ((b : Value) (w : World) → m b w ≡ and_then (n b w) on) → evaluated r at e w m ≡ and_then (evaluated r at e w n) on
  unfolding evaluated
  evaluated_seq r at e w m n same = read_seq (value_over r at e (row_of w.frame) w) at m n same

  as_number_seq : (v : Value) (at : Spot) (w : World) (m n : ℤ → World → Ran Outcome) → ((z : ℤ) (w : World) → m z w ≡ and_then (n z w) on) → as_number v at w m ≡ and_then (as_number v at w n) on
  as_number_seq (value.Int z) at w m n same = same z w
  as_number_seq value.Null at w m n same = raised_seq NULL_VALUE_NOT_ALLOWED at w
  as_number_seq (value.Big z) at w m n same = raised_seq INTERNAL_ERROR at w
  as_number_seq (value.Text x) at w m n same = raised_seq INTERNAL_ERROR at w
  as_number_seq (value.Bool b) at w m n same = raised_seq INTERNAL_ERROR at w
  as_number_seq (Row' shape fields) at w m n same = raised_seq INTERNAL_ERROR at w

  stepped_by_seq : (n : ℕ) (at : Spot) (w : World) (j i : World → Ran Outcome) → ((w : World) → j w ≡ and_then (i w) on) → stepped_by n at w j ≡ and_then (stepped_by n at w i) on
  stepped_by_seq zero at w j i same = raised_seq QUERY_CANCELED at w
  stepped_by_seq (suc n) at w j i same = ap (λ (y : Ran Outcome). behind (Stepped (place at w) ∷ []) y) (same (record w { steps = n })) ∙ and_then_behind (Stepped (place at w) ∷ []) (i (record w { steps = n })) on

  pub stepped_seq : (at : Spot) (w : World) (j i : World → Ran Outcome) → ((w : World) → j w ≡ and_then (i w) on) → stepped at w j ≡ and_then (stepped at w i) on
  unfolding stepped
  stepped_seq at w j i same = stepped_by_seq w.steps at w j i same

  pub tested_seq : (r : Runner) (at : Spot) (e : Expr) (w : World) (m n : Bool → World → Ran Outcome) → ((b : Bool) (w : World) → m b w ≡ and_then (n b w) on) → tested r at e w m ≡ and_then (tested r at e w n) on
  unfolding tested
  tested_seq r at e w m n same = resolved_seq (reading e w.database.objects w.frame.static) at w (λ x. evaluated r at x w (λ v w. as_truth v at w m)) (λ x. evaluated r at x w (λ v w. as_truth v at w n))
      (λ x. evaluated_seq r at x w (λ v w. as_truth v at w m) (λ v w. as_truth v at w n) (λ v w. as_truth_seq v at w m n same))

  pub bound_seq : (r : Runner) (at : Spot) (e : Expr) (w : World) (m n : ℤ → World → Ran Outcome) → ((z : ℤ) (w : World) → m z w ≡ and_then (n z w) on) → bound r at e w m ≡ and_then (bound r at e w n) on
  unfolding bound
  bound_seq r at e w m n same = resolved_seq (reading e w.database.objects w.frame.static) at w (λ x. evaluated r at x w (λ v w. as_type Integer v at w (λ v w. as_number v at w m)))
      (λ x. evaluated r at x w (λ v w. as_type Integer v at w (λ v w. as_number v at w n)))
      (λ x. evaluated_seq r at x w (λ v w. as_type Integer v at w (λ v w. as_number v at w m)) (λ v w. as_type Integer v at w (λ v w. as_number v at w n))
      (λ v w. as_type_seq Integer v at w (λ v w. as_number v at w m) (λ v w. as_number v at w n) (λ v w. as_number_seq v at w m n same)))

  either_seq : (b : Bool) (x y x' y' : Ran Outcome) → x ≡ and_then x' on → y ≡ and_then y' on → if b then x else y ≡ and_then (if b then x' else y') on
  either_seq true x y x' y' one two = one
  either_seq false x y x' y' one two = two

  positive_seq : (z : ℤ) (at : Spot) (w : World) (m n : ℤ → World → Ran Outcome) → ((z : ℤ) (w : World) → m z w ≡ and_then (n z w) on) → positive z at w m ≡ and_then (positive z at w n) on
  positive_seq z at w m n same = either_seq (int_le z (pos 0)) (raised INVALID_PARAMETER_VALUE at w) (m z w) (raised INVALID_PARAMETER_VALUE at w) (n z w) (raised_seq INVALID_PARAMETER_VALUE at w) (same z w)

  pub stride_seq : (r : Runner) (at : Spot) (e : Option Expr) (w : World) (m n : ℤ → World → Ran Outcome) → ((z : ℤ) (w : World) → m z w ≡ and_then (n z w) on) → stride r at e w m ≡ and_then (stride r at e w n) on
  stride_seq r at None w m n same = same (pos 1) w
  stride_seq r at (Some e) w m n same = bound_seq r at e w (λ z w. positive z at w m) (λ z w. positive z at w n) (λ z w. positive_seq z at w m n same)
