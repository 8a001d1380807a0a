-- A value that is read first, and what goes on with it.
use Rattle.std.proofs.Common.{◌≡◌, ◌∙◌, Bool, Option, Some, None, Ok, Err, ap, refl}
use Rattle.pl_asking.specs.Values.{read_default, read_value, value_of}
use Rattle.pl_base.specs.declared.state.State.{State}
use Rattle.pl_base.specs.declared.types.Ty.{Ty}
use Rattle.pl_base.specs.declared.types.Ty.TheVariants.{Int as Integer}
use Rattle.pl_base.specs.declared.value.Value.{Value}
use Rattle.pl_base.specs.declared.value.Value.TheVariants.{Null}
use Rattle.pl_bodies.specs.declared.simple.Target.{Target}
use Rattle.pl_bodies.specs.declared.declaration.VariableType.{VariableType}
use Rattle.pl_calling.proofs.of_pl_engine.Joins.{Lawful, becomes, start}
use Rattle.pl_calling.specs.pl_engine.Answers.{Partway}
use Rattle.pl_calling.specs.pl_engine.Asks.{number, returned, truth}
use Rattle.pl_calling.specs.pl_engine.Engines.{world}
use Rattle.pl_calling.specs.pl_engine.declared.engine.Engine.{Engine}
use Rattle.pl_calling.specs.pl_engine.declared.port.Port.{Ghosts}
use Rattle.pl_flow.proofs.Asked.{by}
use Rattle.pl_flow.proofs.Sequences.{behind_none, evaluated_seq, resolved_seq}
use Rattle.pl_calling.specs.pl_names.Names.{Name}
use Rattle.pl_direct.specs.pl_scope.declared.resolve.ResolvedExpr.{ResolvedExpr}
use Rattle.pl_tree.specs.declared.tree.Expr.{Expr}
use Rattle.pl_typing.specs.Resolved.{Resolved, ◌>>=◌}
use Rattle.pl_world.specs.Assigning.{assigned, kept_if, put, takes}
use Rattle.pl_world.specs.Blocks.{Declaring, declares, declaring, default_means}
use Rattle.pl_world.specs.Control.{as_number, bound, returns, tested}
use Rattle.pl_world.specs.Conversions.{as_truth, as_type}
use Rattle.pl_world.specs.Errors.{Spot, raised, resolved, resolves}
use Rattle.pl_world.specs.Expressions.{evaluated}
use Rattle.pl_world.specs.Resolving.{Placing, Variable, aiming, giving, placing, reading, typing}
use Rattle.pl_world.specs.Running.{Runner}
use Rattle.pl_world.specs.Variables.{declared}
use Rattle.pl_world.specs.World.{Ran, World, and_then, ends}
use Rattle.pl_world.specs.declared.outcome.Outcome.{Outcome}
use Rattle.pl_world.specs.declared.outcome.Outcome.TheVariants as outcome

-- ---- what goes on with a value

abbrev pub on_value : (Value → World → Ran Outcome) → Outcome → World → Ran Outcome
on_value k o w = by (value_of o) k w

abbrev pub value_of_it : Runner → Spot → World → ResolvedExpr → Ran Outcome
value_of_it r at w x = evaluated r at x w returned

abbrev pub read_then : Runner → Spot → Expr → World → (Value → World → Ran Outcome) → Ran Outcome
read_then r at e w k = resolved (reading e w.database.objects w.frame.static) at w (λ x. evaluated r at x w k)

pub evaluated_is : (r : Runner) (at : Spot) (x : ResolvedExpr) (w : World) (k : Value → World → Ran Outcome) → evaluated r at x w k ≡ and_then (evaluated r at x w returned) (on_value k)
evaluated_is r at x w k = evaluated_seq (on_value k) (λ f w. refl) r at x w k returned (λ v w. behind_none (k v w))

pub read_is : (r : Runner) (at : Spot) (e : Expr) (w : World) (k : Value → World → Ran Outcome) → read_then r at e w k ≡ and_then (read_value r at e w) (on_value k)
read_is r at e w k = resolved_seq (on_value k) (λ f w. refl) (reading e w.database.objects w.frame.static) at w (λ x. evaluated r at x w k) (λ x. evaluated r at x w returned) (λ x. evaluated_is r at x w k)

-- ---- steps of resolution

resolved_then : {A B : Type 0} (m : Resolved A) (f : A → Resolved B) (at : Spot) (w : World) (k : B → Ran Outcome) → resolved (m >>= f) at w k ≡ resolved m at w (λ x. resolved (f x) at w k)
unfolding resolves
resolved_then (Ok x) f at w k = refl
resolved_then (Err state) f at w k = refl

-- ---- conditions and bounds

abbrev pub truth_next : Spot → Value → World → Ran Outcome
truth_next at v w = as_truth v at w truth

abbrev pub number_next : Spot → Value → World → Ran Outcome
number_next at v w = as_number v at w number

abbrev pub bound_next : Spot → Value → World → Ran Outcome
bound_next at v w = as_type Integer v at w (number_next at)

pub tested_is : (r : Runner) (at : Spot) (e : Expr) (w : World) → tested r at e w truth ≡ read_then r at e w (truth_next at)
unfolding tested
tested_is r at e w = refl

bound_is : (r : Runner) (at : Spot) (e : Expr) (w : World) → bound r at e w number ≡ read_then r at e w (bound_next at)
unfolding bound
bound_is r at e w = refl

-- ---- assignment

abbrev pub put_at : Variable → Spot → Value → World → Ran Outcome
put_at to at v w = put to v at w

abbrev pub assigned_to : Runner → Spot → Variable → Expr → World → Ran Outcome
assigned_to r at to e w = resolved (reading e w.database.objects w.frame.static) at w (λ x. assigned r at (record { to = to; value = x }) w)

pub assigned_is : (r : Runner) (at : Spot) (to : Variable) (e : Expr) (w : World) → assigned_to r at to e w ≡ read_then r at e w (put_at to at)
unfolding assigned
assigned_is r at to e w = refl

abbrev pub assigns : Runner → Spot → Target → Expr → World → Ran Outcome
assigns r at t e w = resolved (placing t e w.database.objects w.frame.static) at w (λ p. assigned r at p w)

abbrev with_target : Expr → World → Variable → Resolved Placing
with_target e w to = reading e w.database.objects w.frame.static >>= (λ x. Ok (record { to = to; value = x }))

placing_is : (r : Runner) (at : Spot) (t : Target) (e : Expr) (w : World) → assigns r at t e w ≡ resolved (aiming t w.database.objects w.frame.static >>= with_target e w) at w (λ p. assigned r at p w)
unfolding placing
placing_is r at t e w = refl

value_is : (r : Runner) (at : Spot) (to : Variable) (e : Expr) (w : World) → resolved (with_target e w to) at w (λ p. assigned r at p w) ≡ assigned_to r at to e w
unfolding resolves
value_is r at to e w = resolved_then {B = Placing} (reading e w.database.objects w.frame.static) (λ x. Ok (record { to = to; value = x })) at w (λ p. assigned r at p w)

pub assigns_to : (r : Runner) (at : Spot) (t : Target) (e : Expr) (w : World) (to : Variable) → aiming t w.database.objects w.frame.static ≡ Ok to → assigns r at t e w ≡ assigned_to r at to e w
assigns_to r at t e w to is = placing_is r at t e w
    ∙ (ap (λ (m : Resolved Variable). resolved (m >>= with_target e w) at w (λ p. assigned r at p w)) is ∙ value_is r at to e w)

err_is : {A : Type 0} (state : State) (at : Spot) (w : World) (k : A → Ran Outcome) → resolved (Err state) at w k ≡ raised state at w
unfolding resolves
err_is state at w k = refl

pub assigns_not : (r : Runner) (at : Spot) (t : Target) (e : Expr) (w : World) (state : State) → aiming t w.database.objects w.frame.static ≡ Err state → assigns r at t e w ≡ raised state at w
assigns_not r at t e w state is = placing_is r at t e w
    ∙ (ap (λ (m : Resolved Variable). resolved (m >>= with_target e w) at w (λ p. assigned r at p w)) is ∙ err_is {A = Placing} state at w (λ p. assigned r at p w))

-- ---- RETURN

pub gives_is : (r : Runner) (at : Spot) (value : Option Expr) (e : Expr) (w : World) → value ≡ Some e
    → returns r at value w ≡ resolved (giving e w.database.objects w.frame.static) at w (λ x. evaluated r at x w returned)
unfolding returns
gives_is r at value e w is = ap (λ (v : Option Expr). returns r at v w) is

pub gives_none : (r : Runner) (at : Spot) (value : Option Expr) (w : World) → value ≡ None → returns r at value w ≡ ends (outcome.Return Null) w
unfolding returns
gives_none r at value w is = ap (λ (v : Option Expr). returns r at v w) is

-- ---- declarations

abbrev pub kept_next : Spot → Name → Ty → Bool → Value → World → Ran Outcome
kept_next at name ty is_required v w = kept_if (takes is_required v) (declared name ty is_required v w) at w

abbrev pub declared_next : Spot → Name → Ty → Bool → Value → World → Ran Outcome
declared_next at name ty is_required v w = as_type ty v at w (kept_next at name ty is_required)

abbrev pub declared_as : Runner → Spot → Name → Ty → Bool → Option Expr → World → Ran Outcome
declared_as r at name ty is_required default w = resolved (default_means default w.database.objects w.frame.static) at w (λ x. declares r at name is_required (record { ty = ty; value = x }) w)

default_is : (r : Runner) (at : Spot) (name : Name) (ty : Ty) (is_required : Bool) (default : Option Expr) (w : World)
    → declared_as r at name ty is_required default w ≡ and_then (read_default r at default w) (on_value (declared_next at name ty is_required))
unfolding resolves
default_is r at name ty is_required None w = behind_none (declared_next at name ty is_required Null w)
default_is r at name ty is_required (Some e) w = resolved_then {B = Option ResolvedExpr} (reading e w.database.objects w.frame.static) (λ x. Ok (Some x)) at w (λ x. declares r at name is_required (record { ty = ty; value = x }) w)
    ∙ read_is r at e w (declared_next at name ty is_required)

abbrev pub declares_it : Runner → Spot → Name → VariableType → Bool → Option Expr → World → Ran Outcome
declares_it r at name t is_required default w = resolved (declaring t default w.database.objects w.frame.static) at w (λ d. declares r at name is_required d w)

abbrev with_type : Option Expr → World → Ty → Resolved Declaring
with_type default w ty = default_means default w.database.objects w.frame.static >>= (λ x. Ok (record { ty = ty; value = x }))

declaring_is : (r : Runner) (at : Spot) (name : Name) (t : VariableType) (is_required : Bool) (default : Option Expr) (w : World)
    → declares_it r at name t is_required default w ≡ resolved (typing t w.database.objects w.frame.static >>= with_type default w) at w (λ d. declares r at name is_required d w)
unfolding declaring
declaring_is r at name t is_required default w = refl

type_is : (r : Runner) (at : Spot) (name : Name) (ty : Ty) (is_required : Bool) (default : Option Expr) (w : World)
    → resolved (with_type default w ty) at w (λ d. declares r at name is_required d w) ≡ declared_as r at name ty is_required default w
unfolding resolves
type_is r at name ty is_required default w = resolved_then {B = Declaring} (default_means default w.database.objects w.frame.static) (λ x. Ok (record { ty = ty; value = x })) at w (λ d. declares r at name is_required d w)

pub declares_as : (r : Runner) (at : Spot) (name : Name) (t : VariableType) (is_required : Bool) (default : Option Expr) (w : World) (ty : Ty) → typing t w.database.objects w.frame.static ≡ Ok ty
    → declares_it r at name t is_required default w ≡ declared_as r at name ty is_required default w
declares_as r at name t is_required default w ty is = declaring_is r at name t is_required default w
    ∙ (ap (λ (m : Resolved Ty). resolved (m >>= with_type default w) at w (λ d. declares r at name is_required d w)) is ∙ type_is r at name ty is_required default w)

pub declares_not : (r : Runner) (at : Spot) (name : Name) (t : VariableType) (is_required : Bool) (default : Option Expr) (w : World) (state : State) → typing t w.database.objects w.frame.static ≡ Err state
    → declares_it r at name t is_required default w ≡ raised state at w
declares_not r at name t is_required default w state is = declaring_is r at name t is_required default w
    ∙ (ap (λ (m : Resolved Ty). resolved (m >>= with_type default w) at w (λ d. declares r at name is_required d w)) is ∙ err_is {A = Declaring} state at w (λ d. declares r at name is_required d w))

-- ---- the forms, as they begin

module _ {P : Type 0} {port : Ghosts P} (law : Lawful port) (r : Runner) (at : Spot) (e : Engine) (p : P) (fits : port.fits (world e).last p) where
  -- the whole may be written otherwise
  pub here : {O : Type 0} {whole rest : Ran O} → whole ≡ rest → Partway port whole rest e e p p
  here {O} {whole} is = becomes law (start law whole e p fits) is

  pub test_here : (x : Expr) → Partway port (tested r at x (world e) truth) (and_then (read_value r at x (world e)) (on_value (truth_next at))) e e p p
  test_here x = here (tested_is r at x (world e) ∙ read_is r at x (world e) (truth_next at))

  pub bound_here : (x : Expr) → Partway port (bound r at x (world e) number) (and_then (read_value r at x (world e)) (on_value (bound_next at))) e e p p
  bound_here x = here (bound_is r at x (world e) ∙ read_is r at x (world e) (bound_next at))

  pub assign_here : (to : Variable) (x : Expr) → Partway port (assigned_to r at to x (world e)) (and_then (read_value r at x (world e)) (on_value (put_at to at))) e e p p
  assign_here to x = here (assigned_is r at to x (world e) ∙ read_is r at x (world e) (put_at to at))

  pub default_here : (name : Name) (ty : Ty) (is_required : Bool) (default : Option Expr)
      → Partway port (declared_as r at name ty is_required default (world e)) (and_then (read_default r at default (world e)) (on_value (declared_next at name ty is_required))) e e p p
  default_here name ty is_required default = here (default_is r at name ty is_required default (world e))
