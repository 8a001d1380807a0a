-- Acts that neither print nor commit nor take a step, alone and one after another.
use Rattle.std.proofs.Common.{◌≡◌, ◌≢◌, ◌<◌, ◌≤◌, ◌+◌, ◌∙◌, ℕ, Bool, true, false, List, [], ◌∷◌, ◌++◌, Result, Ok, Err, add-one, ap, arith, drop, drop-cons, drop_of_length-le, get_or, length, map, pos, refl, subst, sym}
use Rattle.std.specs.Prelude.{IfOk}
use Rattle.pl_asking.specs.Values.{first_or_null, put_in}
use Rattle.pl_base.specs.States.{NULL_VALUE_NOT_ALLOWED}
use Rattle.pl_base.specs.declared.state.State.{State}
use Rattle.pl_base.specs.declared.types.Ty.{Ty}
use Rattle.pl_base.specs.declared.types.Ty.TheVariants.{Bool as Boolean}
use Rattle.pl_base.specs.declared.value.Value.{Value}
use Rattle.pl_base.specs.declared.value.Value.TheVariants.{Big, Bool as Truth}
use Rattle.pl_bodies.specs.declared.simple.Target.{Target}
use Rattle.pl_calc.specs.Answer.{Answer}
use Rattle.pl_calling.proofs.of_pl_engine.Joins.{behind_behind, behind_none, outward-append, stepped_in-append}
use Rattle.pl_calling.specs.pl_engine.Asks.{truth}
use Rattle.pl_calling.specs.pl_engine.Engines.{Quiet, stepped_in, world}
use Rattle.pl_calling.specs.pl_engine.declared.engine.Engine.{Engine}
use Rattle.pl_flow.proofs.Sequences.{resolved_seq}
use Rattle.pl_calling.specs.pl_names.Names.{Name}
use Rattle.pl_typing.specs.Resolved.{Resolved}
use Rattle.pl_value.specs.Combined.{is_true}
use Rattle.pl_value.specs.Frames.{Row}
use Rattle.pl_world.specs.Assigning.{diagnosed, kept_if, put, put_all, put_each, takes}
use Rattle.pl_world.specs.Conversions.{as_truth, as_type, converted, settled}
use Rattle.pl_world.specs.Errors.{Spot, as_run_state, raised, resolved, resolves}
use Rattle.pl_world.specs.Resolving.{Variable, aiming}
use Rattle.pl_world.specs.Running.{on_next}
use Rattle.pl_world.specs.Scripts.{outward}
use Rattle.pl_world.specs.Variables.{declared, with_value}
use Rattle.pl_world.specs.World.{Event, Ran, World, and_then, behind, ends, made}
use Rattle.pl_world.specs.declared.outcome.Outcome.{Outcome}
use Rattle.pl_world.specs.declared.outcome.Outcome.TheVariants as outcome

-- ---- one act

-- it may be written otherwise
pub quiet_is : {O : Type 0} {r r' : Ran O} (o : O) (old new : Engine) → r ≡ r' → Quiet r' o old new → Quiet r o old new
quiet_is {O} {r} {r'} o old new is q = subst (λ (x : Ran O). Quiet x o old new) (sym is) q

-- so may what is done where there is memory
pub quiet_if : {O E : Type 0} {r r' : Ran O} (old new : Engine) (x : Result O E) → r ≡ r' → IfOk x (λ o. Quiet r' o old new) → IfOk x (λ o. Quiet r o old new)
quiet_if {O} {E} {r} {r'} old new x is q = subst (λ (r : Ran O). IfOk x (λ o. Quiet r o old new)) (sym is) q

-- nothing is done
pub quiet_end : {O : Type 0} (o : O) (e : Engine) → Quiet (ends o (world e)) o e e
quiet_end o e = (refl, refl, refl, refl, refl, refl)

-- the engine stands for another world
pub quiet_step : {next : World} (old new : Engine) → world new ≡ next → next.steps ≡ (world old).steps → next.last ≡ (world old).last → Quiet (ends outcome.Next next) outcome.Next old new
quiet_step old new is steps last = (sym is, refl, refl, refl, ap (λ (w : World). w.steps) is ∙ steps, ap (λ (w : World). w.last) is ∙ last)

-- ---- conversions

pub as_type_ok : (to : Ty) (v : Value) (at : Spot) (w : World) (k : Value → World → Ran Outcome) (x : Value) → converted to v ≡ Ok x → as_type to v at w k ≡ k x w
unfolding as_type
as_type_ok to v at w k x is = ap (λ (a : Answer). settled a at w k) is

pub as_type_err : (to : Ty) (v : Value) (at : Spot) (w : World) (k : Value → World → Ran Outcome) (state : State) → converted to v ≡ Err state → as_type to v at w k ≡ raised (as_run_state state) at w
unfolding as_type
as_type_err to v at w k state is = ap (λ (a : Answer). settled a at w k) is

pub truth_ok : (v : Value) (at : Spot) (w : World) (x : Value) → converted Boolean v ≡ Ok x → as_truth v at w truth ≡ ends (outcome.Return (Truth (is_true x))) w
unfolding as_truth
truth_ok v at w x is = as_type_ok Boolean v at w (λ b w. truth (is_true b) w) x is

pub truth_err : (v : Value) (at : Spot) (w : World) (state : State) → converted Boolean v ≡ Err state → as_truth v at w truth ≡ raised (as_run_state state) at w
unfolding as_truth
truth_err v at w state is = as_type_err Boolean v at w (λ b w. truth (is_true b) w) state is

-- ---- one variable

pub kept_here : (b : Bool) (next : World) (at : Spot) (w : World) → b ≡ true → kept_if b next at w ≡ ends outcome.Next next
kept_here b next at w is = ap (λ (b : Bool). kept_if b next at w) is

pub kept_not : (b : Bool) (next : World) (at : Spot) (w : World) → b ≡ false → kept_if b next at w ≡ raised NULL_VALUE_NOT_ALLOWED at w
kept_not b next at w is = ap (λ (b : Bool). kept_if b next at w) is

abbrev pub put_next : Variable → Spot → Value → World → Ran Outcome
put_next to at v w = kept_if (takes to.is_required v) (with_value to.at v w) at w

abbrev pub put_it : Value → Spot → World → Variable → Ran Outcome
put_it v at w to = put to v at w

pub put_is : (to : Variable) (v : Value) (at : Spot) (w : World) → put to v at w ≡ as_type to.ty v at w (put_next to at)
unfolding put
put_is to v at w = refl

pub declared_steps : (name : Name) (ty : Ty) (is_required : Bool) (v : Value) (w : World) → (declared name ty is_required v w).steps ≡ w.steps
unfolding declared
declared_steps name ty is_required v w = refl

pub declared_last : (name : Name) (ty : Ty) (is_required : Bool) (v : Value) (w : World) → (declared name ty is_required v w).last ≡ w.last
unfolding declared
declared_last name ty is_required v w = refl

-- ---- what is resolved

pub resolved_ok : {A : Type 0} (m : Resolved A) (at : Spot) (w : World) (k : A → Ran Outcome) (x : A) → m ≡ Ok x → resolved m at w k ≡ k x
unfolding resolves
resolved_ok {A} m at w k x is = ap (λ (m : Resolved A). resolved m at w k) is

pub resolved_err : {A : Type 0} (m : Resolved A) (at : Spot) (w : World) (k : A → Ran Outcome) (state : State) → m ≡ Err state → resolved m at w k ≡ raised state at w
unfolding resolves
resolved_err {A} m at w k state is = ap (λ (m : Resolved A). resolved m at w k) is

-- ---- acts one after another

-- so far whole has led to what rest goes on with, and nothing was seen of it
pub record Quietly {O : Type 0} (whole rest : Ran O) (old now : Engine) : Type 0 where
  pub events : List Event
  pub goes_on : whole ≡ behind events rest
  pub unseen : outward events ≡ []
  pub without_steps : stepped_in events ≡ 0
  pub steps : now.steps ≡ old.steps
  pub last : (world now).last ≡ (world old).last

pub quiet_start : {O : Type 0} (r : Ran O) (e : Engine) → Quietly r r e e
quiet_start r e = record { events = []; goes_on = behind_none r; unseen = refl; without_steps = refl; steps = refl; last = refl }

pub quiet_becomes : {O : Type 0} {whole rest rest' : Ran O} {old now : Engine} → Quietly whole rest old now → rest ≡ rest' → Quietly whole rest' old now
quiet_becomes {O} {whole} {rest} {rest'} {old} {now} way is = subst (λ (r : Ran O). Quietly whole r old now) is way

quiet_on : {A B : Type 0} {whole : Ran B} (r : Ran A) (o : A) {old mid new : Engine} (k : A → World → Ran B) → Quietly whole (and_then r k) old mid → Quiet r o mid new → Quietly whole (k o (world new)) old new
quiet_on {A} {B} {whole} (made w a es) o {old} {mid} {new} k way (same, is, out, none, steps, last) = record {
  events = way.events ++ es;
  goes_on = way.goes_on ∙ (ap (λ (x : Ran B). behind way.events (behind es x)) (ap (λ (w : World). k a w) same ∙ ap (λ (a : A). k a (world new)) is) ∙ behind_behind way.events es (k o (world new)));
  unseen = outward-append way.events es ∙ (ap (λ xs. xs ++ outward es) way.unseen ∙ out);
  without_steps = let before = way.without_steps in let both = stepped_in-append way.events es in omega (arith, none);
  steps = steps ∙ way.steps;
  last = last ∙ way.last;
}

quiet_done : {O : Type 0} {whole rest : Ran O} (o : O) {old mid : Engine} (new : Engine) → Quietly whole rest old mid → Quiet rest o mid new → Quiet whole o old new
quiet_done {O} {whole} {rest = made w a es} o {old} {mid} new way (same, is, out, none, steps, last) = quiet_is o old new way.goes_on (
  same,
  is,
  outward-append way.events es ∙ (ap (λ xs. xs ++ outward es) way.unseen ∙ out),
  (let before = way.without_steps in let both = stepped_in-append way.events es in omega (arith, none)),
  steps ∙ way.steps,
  last ∙ way.last,
)

module _ {whole : Ran Outcome} (first : Ran Outcome) {old mid : Engine} (new : Engine) (k : World → Ran Outcome) (way : Quietly whole (and_then first (on_next k)) old mid) where
  quiet_next : (o : Outcome) → Quiet first o mid new → o ≡ outcome.Next → Quietly whole (k (world new)) old new
  quiet_next o q next = quiet_on first outcome.Next (on_next k) way (subst (λ (o : Outcome). Quiet first o mid new) next q)

  quiet_off : (o : Outcome) → Quiet first o mid new → o ≢ outcome.Next → Quiet whole o old new
  quiet_off outcome.Next q other = absurd (other refl)
  quiet_off (outcome.Exit to) q other = quiet_done (outcome.Exit to) new (quiet_on first (outcome.Exit to) (on_next k) way q) (quiet_end (outcome.Exit to) new)
  quiet_off (outcome.Continue to) q other = quiet_done (outcome.Continue to) new (quiet_on first (outcome.Continue to) (on_next k) way q) (quiet_end (outcome.Continue to) new)
  quiet_off (outcome.Return v) q other = quiet_done (outcome.Return v) new (quiet_on first (outcome.Return v) (on_next k) way q) (quiet_end (outcome.Return v) new)
  quiet_off (outcome.Fail f) q other = quiet_done (outcome.Fail f) new (quiet_on first (outcome.Fail f) (on_next k) way q) (quiet_end (outcome.Fail f) new)

-- ---- variables one after another

pub front : {A : Type 0} (xs : List A) (i : ℕ) (x : A) → i < length xs → x ≡ get_or xs i x → drop i xs ≡ x ∷ drop (i + 1) xs
front xs i x lt is = rw (add-one, drop-cons xs i x lt, ← is) refl

-- each target with this value
abbrev pub with_count : Value → List Target → List (Target × Value)
with_count v ts = map (λ (t : Target). (t, v)) ts

module _ (at : Spot) where
  abbrev all_next : List Variable → Row → World → Ran Outcome
  all_next vs row w = put_all vs row at w

  all_cons : (v : Variable) (vs : List Variable) (row : Row) (w : World) → put_all (v ∷ vs) row at w ≡ and_then (put v (first_or_null row) at w) (on_next (all_next vs (drop 1 row)))
  unfolding put_all
  all_cons v vs [] w = refl
  all_cons v vs (x ∷ row) w = refl

  all_nil : (row : Row) (w : World) → put_all [] row at w ≡ ends outcome.Next w
  unfolding put_all
  all_nil row w = refl

  module _ {whole : Ran Outcome} {old mid : Engine} (vs : List Variable) (i : ℕ) (row : Row) (way : Quietly whole (put_all (drop i vs) row at (world mid)) old mid) where
    all_here : (v : Variable) → i < length vs → v ≡ get_or vs i v → Quietly whole (and_then (put v (first_or_null row) at (world mid)) (on_next (all_next (drop (i + 1) vs) (drop 1 row)))) old mid
    all_here v lt is = quiet_becomes way (ap (λ (ys : List Variable). put_all ys row at (world mid)) (front vs i v lt is) ∙ all_cons v (drop (i + 1) vs) row (world mid))

    module _ (v : Variable) (lt : i < length vs) (is : v ≡ get_or vs i v) (new : Engine) (o : Outcome) (q : Quiet (put v (first_or_null row) at (world mid)) o mid new) where
      pub all_on : (left : Row) → left ≡ drop 1 row → o ≡ outcome.Next → Quietly whole (put_all (drop (i + 1) vs) left at (world new)) old new
      all_on left same next = quiet_becomes (quiet_next (put v (first_or_null row) at (world mid)) new (all_next (drop (i + 1) vs) (drop 1 row)) (all_here v lt is) o q next)
          (ap (λ (row : Row). put_all (drop (i + 1) vs) row at (world new)) (sym same))

      pub all_off : o ≢ outcome.Next → Quiet whole o old new
      all_off other = quiet_off (put v (first_or_null row) at (world mid)) new (all_next (drop (i + 1) vs) (drop 1 row)) (all_here v lt is) o q other

    pub all_end : length vs ≤ i → Quiet whole outcome.Next old mid
    all_end le = quiet_done outcome.Next mid (quiet_becomes way (ap (λ (ys : List Variable). put_all ys row at (world mid)) (drop_of_length-le vs le) ∙ all_nil row (world mid))) (quiet_end outcome.Next mid)

  abbrev each_next : List (Target × Value) → World → Ran Outcome
  each_next xs w = put_each xs at w

  each_cons : (t : Target) (v : Value) (xs : List (Target × Value)) (w : World) → put_each ((t, v) ∷ xs) at w ≡ and_then (put_in t v at w) (on_next (each_next xs))
  unfolding put_each
  each_cons t v xs w = resolved_seq (on_next (each_next xs)) (λ f w. refl) (aiming t w.database.objects w.frame.static) at w (λ to. and_then (put to v at w) (on_next (each_next xs))) (λ to. put to v at w) (λ to. refl)

  each_nil : (w : World) → put_each [] at w ≡ ends outcome.Next w
  unfolding put_each
  each_nil w = refl

  count_is : (ts : List Target) (v : Value) (w : World) → v ≡ Big (pos w.frame.row_count) → diagnosed ts at w ≡ put_each (with_count v ts) at w
  unfolding diagnosed
  count_is ts v w is = ap (λ (v : Value). put_each (with_count v ts) at w) (sym is)

  pub count_here : (e : Engine) (ts : List Target) (v : Value) → v ≡ Big (pos (world e).frame.row_count) → Quietly (diagnosed ts at (world e)) (put_each (with_count v ts) at (world e)) e e
  count_here e ts v is = quiet_becomes (quiet_start (diagnosed ts at (world e)) e) (count_is ts v (world e) is)

  -- things of a list, each of which gives a target and its value
  module _ {A : Type 0} {whole : Ran Outcome} {old mid : Engine} (xs : List A) (of : A → Target × Value) (i : ℕ) (way : Quietly whole (put_each (map of (drop i xs)) at (world mid)) old mid) where
    each_here : (a : A) → i < length xs → a ≡ get_or xs i a → Quietly whole (and_then (put_in (of a).0 (of a).1 at (world mid)) (on_next (each_next (map of (drop (i + 1) xs))))) old mid
    each_here a lt is = quiet_becomes way (ap (λ (ys : List A). put_each (map of ys) at (world mid)) (front xs i a lt is) ∙ each_cons (of a).0 (of a).1 (map of (drop (i + 1) xs)) (world mid))

    module _ (a : A) (lt : i < length xs) (is : a ≡ get_or xs i a) (new : Engine) (o : Outcome) (q : Quiet (put_in (of a).0 (of a).1 at (world mid)) o mid new) where
      pub each_on : o ≡ outcome.Next → Quietly whole (put_each (map of (drop (i + 1) xs)) at (world new)) old new
      each_on next = quiet_next (put_in (of a).0 (of a).1 at (world mid)) new (each_next (map of (drop (i + 1) xs))) (each_here a lt is) o q next

      pub each_off : o ≢ outcome.Next → Quiet whole o old new
      each_off other = quiet_off (put_in (of a).0 (of a).1 at (world mid)) new (each_next (map of (drop (i + 1) xs))) (each_here a lt is) o q other

    pub each_end : length xs ≤ i → Quiet whole outcome.Next old mid
    each_end le = quiet_done outcome.Next mid (quiet_becomes way (ap (λ (ys : List A). put_each (map of ys) at (world mid)) (drop_of_length-le xs le) ∙ each_nil (world mid))) (quiet_end outcome.Next mid)
