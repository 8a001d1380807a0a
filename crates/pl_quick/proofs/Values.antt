-- Conditions and assignments whose values are read at once.
use Rattle.std.proofs.Common.{◌≡◌, ◌∙◌, Bool, true, false, List, Option, Some, None, Ok, ap, if◌then◌else◌, not, refl, subst, sym}
use Rattle.std.proofs.lemmas.Bool.{cond-true}
use Rattle.std.specs.Prelude.{IfSome, slice_get, unwrap_or}
use Rattle.pl_base.specs.declared.types.Ty.{Ty}
use Rattle.pl_base.specs.declared.value.Value.{Value}
use Rattle.pl_base.specs.declared.value.Value.TheVariants as value
use Rattle.pl_bodies.specs.declared.simple.Jump.{Jump}
use Rattle.pl_bodies.specs.declared.simple.Simple.{Simple}
use Rattle.pl_bodies.specs.declared.simple.Simple.TheVariants as simple
use Rattle.pl_bodies.specs.declared.simple.Target.{Target}
use Rattle.pl_bodies.specs.declared.statement.Branch.{Branch}
use Rattle.pl_bodies.specs.declared.statement.Otherwise.{Otherwise}
use Rattle.pl_bodies.specs.declared.statement.StatementKind.TheOpen as kind
use Rattle.pl_calc.specs.Answer.{Answer}
use Rattle.pl_calc.specs.Casts.{cast_to, is_assignable}
use Rattle.pl_calc.specs.Logic.{is_null}
use Rattle.pl_direct.specs.Fitted.{Fits}
use Rattle.pl_direct.specs.Known.{value_of}
use Rattle.pl_direct.specs.Search.{StandsFor, meaning_of}
use Rattle.pl_direct.specs.declared.known.Known.{Known}
use Rattle.pl_direct.specs.declared.known.Known.TheVariants.{Bool as Truth}
use Rattle.pl_direct.specs.declared.search.Spot as found
use Rattle.pl_direct.specs.pl_scope.Resolution.{standing}
use Rattle.pl_direct.specs.pl_scope.declared.resolve.ResolvedExpr.{ResolvedExpr}
use Rattle.pl_engine.proofs.Joins.{behind_none}
use Rattle.pl_engine.specs.pl_world.Assigning.{assigned, kept_if, put, takes}
use Rattle.pl_engine.specs.pl_world.Calls.{Within, calls}
use Rattle.pl_engine.specs.pl_world.Control.{branches, jumped, jumps, returns, tested}
use Rattle.pl_engine.specs.pl_world.Conversions.{as_truth, as_type, converted, settled}
use Rattle.pl_engine.specs.pl_world.Errors.{Spot, resolved, resolves}
use Rattle.pl_engine.specs.pl_world.Expressions.{begun, evaluated, inner, read, reads}
use Rattle.pl_engine.specs.pl_world.Resolving.{Placing, Variable, aiming, giving, placing, reading, result_of, target_means, variable_at}
use Rattle.pl_engine.specs.pl_world.Running.{Runner}
use Rattle.pl_engine.specs.pl_world.Statements.{form, simple_form}
use Rattle.pl_engine.specs.pl_world.Variables.{with_value}
use Rattle.pl_engine.specs.pl_world.World.{Ran, World, ends}
use Rattle.pl_engine.specs.pl_world.declared.outcome.Outcome.{Outcome}
use Rattle.pl_engine.specs.pl_world.declared.outcome.Outcome.TheVariants as outcome
use Rattle.pl_names.specs.Names.{Name, name_means}
use Rattle.pl_names.specs.declared.found.Meaning.{Meaning}
use Rattle.pl_names.specs.declared.scope.Scope.{Scope}
use Rattle.pl_quick.specs.Acts.{IsReadIf}
use Rattle.pl_quick.specs.Computing.{HasValue, outcome_of}
use Rattle.pl_quick.specs.declared.acting.End.{End}
use Rattle.pl_tree.specs.declared.tree.Expr.{Expr}
use Rattle.pl_typing.specs.Resolved.{Resolved, ◌>>=◌}
use Rattle.pl_value.specs.Reading.{Reading}

-- ---- values

resolved_ok : {A : Type 0} (m : Resolved A) (at : Spot) (w : World) (k : A → Ran Outcome) (x : A) → m ≡ Ok x → resolved m at w k ≡ k x
unfolding resolves
resolved_ok {A} m at w k x is = ap (λ (m : Resolved A). resolved m at w k) is

-- ---- variables that are given values

pub converts : (ty : Ty) (k : Known) (v : Value) → Fits k ty v → converted ty (value_of k) ≡ Ok v
converts ty k v fits = cond-true (is_assignable (value_of k) ty) (cast_to (value_of k) ty) _ fits.is_taken ∙ fits.is_value

module _ (at : Spot) (w : World) where
  kept : (b : Bool) (next : World) → b ≡ true → kept_if b next at w ≡ ends outcome.Next next
  kept b next is = ap (λ (b : Bool). kept_if b next at w) is

  taken : (is_required : Bool) (v : Value) → is_null v ≡ false → takes is_required v ≡ true
  taken true v is = ap (λ (b : Bool). not b) is
  taken false v is = refl

  typed : (to : Variable) (v x : Value) → converted to.ty v ≡ Ok x → put to v at w ≡ kept_if (takes to.is_required x) (with_value to.at x w) at w
  unfolding put as_type
  typed to v x is = ap (λ (a : Answer). settled a at w (λ v w. kept_if (takes to.is_required v) (with_value to.at v w) at w)) is

  pub puts_it : (to : Variable) (k : Known) (v : Value) → Fits k to.ty v → put to (value_of k) at w ≡ ends outcome.Next (with_value to.at v w)
  puts_it to k v fits = typed to (value_of k) v (converts to.ty k v fits) ∙ kept (takes to.is_required v) (with_value to.at v w) (taken to.is_required v fits.not_null)

-- ---- what is evaluated

module _ (r : Runner) (at : Spot) (w : World) where
  evaluated_is : (x : ResolvedExpr) (k : Known) (go : Value → World → Ran Outcome) → HasValue x k w → evaluated r at x w go ≡ go (value_of k) w
  unfolding evaluated reads
  evaluated_is x k go has = ap (λ (q : Reading Within Value). read q at go) (has (calls r at) (inner r at x.queries w) (begun w)) ∙ sym (behind_none (go (value_of k) w))

  truth_is : (b : Bool) (go : Bool → World → Ran Outcome) → as_truth (value.Bool b) at w go ≡ go b w
  unfolding as_truth as_type
  truth_is b go = refl

  tested_read : (e : Expr) (go : Bool → World → Ran Outcome) → tested r at e w go ≡ resolved (reading e w.database.objects w.frame.static) at w (λ x. evaluated r at x w (λ v w. as_truth v at w go))
  unfolding tested
  tested_read e go = refl

  pub tested_is : (e : Expr) (x : ResolvedExpr) (b : Bool) (go : Bool → World → Ran Outcome) → reading e w.database.objects w.frame.static ≡ Ok x → HasValue x (Truth b) w → tested r at e w go ≡ go b w
  tested_is e x b go reads has =
      tested_read e go
      ∙ (resolved_ok (reading e w.database.objects w.frame.static) at w (λ x. evaluated r at x w (λ v w. as_truth v at w go)) x reads
      ∙ (evaluated_is x (Truth b) (λ v w. as_truth v at w go) has ∙ truth_is b go))

  -- ---- assignment

  placed : (t : Target) (e : Expr) (to : Variable) (x : ResolvedExpr) → aiming t w.database.objects w.frame.static ≡ Ok to → reading e w.database.objects w.frame.static ≡ Ok x
      → placing t e w.database.objects w.frame.static ≡ Ok (record { to = to; value = x })
  unfolding placing
  placed t e to x aims reads =
      ap (λ (m : Resolved Variable). m >>= (λ v. reading e w.database.objects w.frame.static >>= (λ x. Ok (record { to = v; value = x })))) aims
      ∙ ap (λ (m : Resolved ResolvedExpr). m >>= (λ x. Ok (record { to = to; value = x }))) reads

  assigned_is : (p : Placing) → assigned r at p w ≡ evaluated r at p.value w (λ v w. put p.to v at w)
  unfolding assigned
  assigned_is p = refl

  assign_form : (t : Target) (e : Expr) → simple_form r at (simple.Assign t e) w ≡ resolved (placing t e w.database.objects w.frame.static) at w (λ p. assigned r at p w)
  unfolding simple_form
  assign_form t e = refl

  -- an assignment evaluates its value, and puts it into the variable
  pub assigned_by : (t : Target) (e : Expr) (to : Variable) (x : ResolvedExpr) → aiming t w.database.objects w.frame.static ≡ Ok to → reading e w.database.objects w.frame.static ≡ Ok x
      → simple_form r at (simple.Assign t e) w ≡ evaluated r at x w (λ v w. put to v at w)
  assigned_by t e to x aims reads =
      assign_form t e
      ∙ (resolved_ok (placing t e w.database.objects w.frame.static) at w (λ p. assigned r at p w) (record { to = to; value = x }) (placed t e to x aims reads)
      ∙ assigned_is (record { to = to; value = x }))

  pub assigns : (t : Target) (e : Expr) (to : Variable) (x : ResolvedExpr) (k : Known) (o : Outcome) (next : World) → aiming t w.database.objects w.frame.static ≡ Ok to → reading e w.database.objects w.frame.static ≡ Ok x → HasValue x k w
      → put to (value_of k) at w ≡ ends o next → simple_form r at (simple.Assign t e) w ≡ ends o next
  assigns t e to x k o next aims reads has puts = assigned_by t e to x aims reads ∙ (evaluated_is x k (λ v w. put to v at w) has ∙ puts)

  -- ---- EXIT and CONTINUE

  pub jumps_always : (j : Jump) → jumps r at j None None w ≡ ends (jumped j None) w
  unfolding jumps
  jumps_always j = refl

  jumps_when : (j : Jump) (e : Expr) → jumps r at j None (Some e) w ≡ tested r at e w (λ is w. if is then ends (jumped j None) w else ends outcome.Next w)
  unfolding jumps
  jumps_when j e = refl

  pub jumps_if : (j : Jump) (e : Expr) (x : ResolvedExpr) → reading e w.database.objects w.frame.static ≡ Ok x → HasValue x (Truth true) w → jumps r at j None (Some e) w ≡ ends (jumped j None) w
  jumps_if j e x reads has = jumps_when j e ∙ tested_is e x true (λ is w. if is then ends (jumped j None) w else ends outcome.Next w) reads has

  pub jumps_not : (j : Jump) (e : Expr) (x : ResolvedExpr) → reading e w.database.objects w.frame.static ≡ Ok x → HasValue x (Truth false) w → jumps r at j None (Some e) w ≡ ends outcome.Next w
  jumps_not j e x reads has = jumps_when j e ∙ tested_is e x false (λ is w. if is then ends (jumped j None) w else ends outcome.Next w) reads has

  -- ---- RETURN

  returns_one : (e : Expr) → returns r at (Some e) w ≡ resolved (giving e w.database.objects w.frame.static) at w (λ x. evaluated r at x w (λ v w. ends (outcome.Return v) w))
  unfolding returns
  returns_one e = refl

  pub returns_it : (e : Expr) (x : ResolvedExpr) (k : Known) → giving e w.database.objects w.frame.static ≡ Ok x → HasValue x k w → returns r at (Some e) w ≡ ends (outcome.Return (value_of k)) w
  returns_it e x k gives has =
      returns_one e
      ∙ (resolved_ok (giving e w.database.objects w.frame.static) at w (λ x. evaluated r at x w (λ v w. ends (outcome.Return v) w)) x gives
      ∙ evaluated_is x k (λ v w. ends (outcome.Return v) w) has)

  pub of_return : (e : Expr) → form r at (kind.Simple (simple.Return (Some e))) w ≡ returns r at (Some e) w
  unfolding form simple_form
  of_return e = refl

  -- ---- forms

  pub null_form : form r at (kind.Simple simple.Null) w ≡ ends outcome.Next w
  unfolding form simple_form
  null_form = refl

  pub of_simple : (s : Simple) → form r at (kind.Simple s) w ≡ simple_form r at s w
  unfolding form
  of_simple s = refl

  pub of_jump : (j : Jump) (e : Option Expr) → form r at (kind.Simple (simple.Jump j None e)) w ≡ jumps r at j None e w
  unfolding form simple_form
  of_jump j e = refl

  pub of_if : (bs : List Branch) (o : Option Otherwise) → form r at (kind.If bs o) w ≡ branches r at bs o w
  unfolding form
  of_if bs o = refl

-- ---- EXIT and CONTINUE, whether they have a condition or not

abbrev pub Leaves : Jump → Option ResolvedExpr → World → Outcome → Type 0
Leaves j x w o = (r : Runner) (at : Spot) (e : Option Expr) → IsReadIf x e w → jumps r at j None e w ≡ ends o w

always : (j : Jump) (w : World) → Leaves j None w (jumped j None)
always j w r at None read = jumps_always r at w j
always j w r at (Some e) read = absurd read

pub leaves_always : (j : Jump) (x : Option ResolvedExpr) (w : World) (end : End) → x ≡ None → outcome_of end ≡ Some (jumped j None) → IfSome (outcome_of end) (Leaves j x w)
leaves_always j x w end none is =
    subst (λ (x : Option ResolvedExpr). IfSome (outcome_of end) (Leaves j x w)) (sym none) (subst (λ (o : Option Outcome). IfSome o (Leaves j None w)) (sym is) (always j w))

when_true : (j : Jump) (x : ResolvedExpr) (w : World) → HasValue x (Truth true) w → Leaves j (Some x) w (jumped j None)
when_true j x w has r at None read = absurd read
when_true j x w has r at (Some e) read = jumps_if r at w j e x read has

pub leaves_if : (j : Jump) (x : Option ResolvedExpr) (y : ResolvedExpr) (w : World) (end : End) → x ≡ Some y → HasValue y (Truth true) w → outcome_of end ≡ Some (jumped j None) → IfSome (outcome_of end) (Leaves j x w)
leaves_if j x y w end some has is =
    subst (λ (x : Option ResolvedExpr). IfSome (outcome_of end) (Leaves j x w)) (sym some) (subst (λ (o : Option Outcome). IfSome o (Leaves j (Some y) w)) (sym is) (when_true j y w has))

when_false : (j : Jump) (x : ResolvedExpr) (w : World) → HasValue x (Truth false) w → Leaves j (Some x) w outcome.Next
when_false j x w has r at None read = absurd read
when_false j x w has r at (Some e) read = jumps_not r at w j e x read has

pub leaves_not : (j : Jump) (x : Option ResolvedExpr) (y : ResolvedExpr) (w : World) → x ≡ Some y → HasValue y (Truth false) w → Leaves j x w outcome.Next
leaves_not j x y w some has = subst (λ (x : Option ResolvedExpr). Leaves j x w outcome.Next) (sym some) (when_false j y w has)

-- ---- what is returned

-- where a value is due
pub returned_by : (e : Expr) (x : ResolvedExpr) (ty : Ty) (w : World) → reading e w.database.objects w.frame.static ≡ Ok x → w.frame.static.result ≡ Some ty → giving e w.database.objects w.frame.static ≡ Ok x
unfolding giving
returned_by e x ty w reads due =
    ap (λ (m : Resolved ResolvedExpr). m >>= (λ x. result_of w.frame.static.result >>= (λ t. Ok x))) reads
    ∙ ap (λ (t : Option Ty). result_of t >>= (λ t. Ok x)) due

-- ---- targets

-- a variable that was found, as one that is given a value
abbrev pub given_to : found.Spot → World → Variable
given_to s w = record { at = s.column; ty = s.seen.now.ty; is_required = unwrap_or (slice_get w.frame.static.required s.column) false }

pub aims_at : (t : Target) (w : World) (s : found.Spot) (scope : Scope) → t.qualifier ≡ None → scope ≡ w.frame.static.scope → StandsFor t.name scope s → aiming t w.database.objects w.frame.static ≡ Ok (given_to s w)
unfolding aiming
aims_at t w s scope plain same stands =
    ap (λ (q : Option Name). target_means q t.name (standing w.database.objects w.frame.static.scope) >>= (λ m. variable_at m w.database.objects w.frame.static)) plain
    ∙ ap (λ (m : Resolved Meaning). m >>= (λ m. variable_at m w.database.objects w.frame.static))
    (subst (λ (scope : Scope). name_means t.name (standing w.database.objects scope) ≡ Ok (meaning_of s)) same (stands w.database.objects))
