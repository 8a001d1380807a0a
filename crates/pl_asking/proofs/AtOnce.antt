-- Values that are read off the tree.
use Rattle.std.proofs.Common.{◌≡◌, ◌∙◌, Bool, true, false, Option, Some, None, Ok, ap, refl, subst, sym}
use Rattle.std.proofs.lemmas.Bool.{cond-true}
use Rattle.std.specs.Prelude.{IfSome, not}
use Rattle.pl_asking.proofs.Acts.{as_type_ok, kept_here, put_is, put_next, resolved_ok, truth_ok}
use Rattle.pl_asking.proofs.Valued.{assigned_is, assigns_to, on_value, put_at, read_is, read_then, tested_is, truth_next}
use Rattle.pl_asking.specs.Values.{AimsAt, AssignedAtOnce, AtOnce, DirectlyIs, GivenAtOnce, TestedAtOnce}
use Rattle.pl_base.specs.declared.types.Ty.{Ty}
use Rattle.pl_base.specs.declared.value.Value.{Value}
use Rattle.pl_base.specs.declared.value.Value.TheVariants as value
use Rattle.pl_bodies.specs.declared.simple.Target.{Target}
use Rattle.pl_calc.specs.Casts.{cast_to, is_assignable}
use Rattle.pl_calc.specs.Logic.{is_null}
use Rattle.pl_direct.specs.Direct.{Valued}
use Rattle.pl_direct.specs.Fitted.{Fits}
use Rattle.pl_direct.specs.Known.{value_of}
use Rattle.pl_direct.specs.Search.{StandsFor, meaning_of}
use Rattle.pl_direct.specs.declared.known.Known.{Known}
use Rattle.pl_direct.specs.declared.known.Known.TheVariants.{Bool as Truth}
use Rattle.pl_direct.specs.declared.search.Spot as found
use Rattle.pl_calling.specs.pl_engine.Asks.{returned}
use Rattle.pl_flow.proofs.Sequences.{behind_none}
use Rattle.pl_calling.specs.pl_names.Names.{Name, name_means}
use Rattle.pl_calling.specs.pl_names.declared.found.Meaning.{Meaning}
use Rattle.pl_calling.specs.pl_names.declared.scope.Scope.{Scope}
use Rattle.pl_direct.specs.pl_scope.Resolution.{standing}
use Rattle.pl_direct.specs.pl_scope.declared.resolve.ResolvedExpr.{ResolvedExpr}
use Rattle.pl_tree.specs.declared.tree.Expr.{Expr}
use Rattle.pl_typing.specs.Resolved.{Resolved, ◌>>=◌}
use Rattle.pl_value.specs.Reading.{Reading}
use Rattle.pl_world.specs.Assigning.{takes}
use Rattle.pl_world.specs.Calls.{Within, calls}
use Rattle.pl_world.specs.Errors.{Spot}
use Rattle.pl_world.specs.Expressions.{begun, evaluated, inner, read, reads}
use Rattle.pl_world.specs.Resolving.{Variable, aiming, giving, reading, result_of, target_means, variable_at}
use Rattle.pl_world.specs.Running.{Runner}
use Rattle.pl_world.specs.Variables.{row_of, with_value}
use Rattle.pl_world.specs.World.{Ran, World, and_then}
use Rattle.pl_world.specs.declared.outcome.Outcome.{Outcome}

evaluated_at_once : (r : Runner) (at : Spot) (x : ResolvedExpr) (w : World) (v : Value) → Valued Within x.typed.tree (row_of w.frame) v → evaluated r at x w returned ≡ returned v w
unfolding evaluated reads
evaluated_at_once r at x w v is = ap (λ (q : Reading Within Value). read q at returned) (is (calls r at) (inner r at x.queries w) (begun w))

as_value : (w : World) (k : Known) (v : Value) → v ≡ value_of k → ((r : Runner) (at : Spot) (x : ResolvedExpr) → Valued Within x.typed.tree (row_of w.frame) (value_of k) → evaluated r at x w returned ≡ returned v w)
as_value w k v is r at x valued = evaluated_at_once r at x w (value_of k) valued ∙ ap (λ (v : Value). returned v w) (sym is)

pub at_once : (e : Expr) (w : World) (k : Known) (v : Value) → DirectlyIs e w k → v ≡ value_of k → AtOnce e w v
unfolding reading
at_once e w k v d is r at =
    resolved_ok (reading e w.database.objects w.frame.static) at w (λ x. evaluated r at x w returned) d.expr d.resolves
    ∙ as_value w k v is r at d.expr d.is_value

given : (e : Expr) (w : World) (x : ResolvedExpr) (t : Ty) → w.frame.static.result ≡ Some t → reading e w.database.objects w.frame.static ≡ Ok x → giving e w.database.objects w.frame.static ≡ Ok x
unfolding giving
given e w x t due is =
    ap (λ (q : Resolved ResolvedExpr). q >>= (λ x. result_of w.frame.static.result >>= (λ t. Ok x))) is
    ∙ ap (λ (t : Option Ty). result_of t >>= (λ t. Ok x)) due

read_directly : (e : Expr) (w : World) (k : Known) (d : DirectlyIs e w k) → reading e w.database.objects w.frame.static ≡ Ok d.expr
unfolding reading
read_directly e w k d = d.resolves

pub given_at_once : (e : Expr) (w : World) (k : Known) (v : Value) (t : Ty) → w.frame.static.result ≡ Some t → DirectlyIs e w k → v ≡ value_of k → GivenAtOnce e w v
given_at_once e w k v t due d is r at =
    resolved_ok (giving e w.database.objects w.frame.static) at w (λ x. evaluated r at x w returned) d.expr (given e w d.expr t due (read_directly e w k d))
    ∙ as_value w k v is r at d.expr d.is_value

-- what is said of the value that there is
pub of_some : {A : Type 0} (P : A → Type 0) (o : Option A) (x : A) → o ≡ Some x → IfSome o P → P x
of_some {A} P o x is all = subst (λ (o : Option A). IfSome o P) is all

-- ---- what goes on with the value

read_at_once : (e : Expr) (w : World) (v : Value) → AtOnce e w v → (r : Runner) (at : Spot) (k : Value → World → Ran Outcome) → read_then r at e w k ≡ k v w
read_at_once e w v now r at k = read_is r at e w k ∙ (ap (λ (q : Ran Outcome). and_then q (on_value k)) (now r at) ∙ sym (behind_none (k v w)))

pub tested_at_once : (e : Expr) (w : World) (b : Bool) → DirectlyIs e w (Truth b) → TestedAtOnce e w b
tested_at_once e w b d r at =
    tested_is r at e w
    ∙ (read_at_once e w (value.Bool b) (at_once e w (Truth b) (value.Bool b) d refl) r at (truth_next at)
    ∙ truth_ok (value.Bool b) at w (value.Bool b) refl)

-- ---- assignment

pub aims_at : (t : Target) (w : World) (s : found.Spot) (scope : Scope) → t.qualifier ≡ None → scope ≡ w.frame.static.scope → StandsFor t.name scope s → AimsAt t w s
unfolding aiming
aims_at t w s scope plain same stands =
    ap (λ (q : Option Name). target_means q t.name (standing w.database.objects w.frame.static.scope) >>= (λ m. variable_at m w.database.objects w.frame.static)) plain
    ∙ ap (λ (m : Resolved Meaning). m >>= (λ m. variable_at m w.database.objects w.frame.static))
    (subst (λ (scope : Scope). name_means t.name (standing w.database.objects scope) ≡ Ok (meaning_of s)) same (stands w.database.objects))

taken : (is_required : Bool) (v : Value) → is_null v ≡ false → takes is_required v ≡ true
taken true v is = ap (λ (b : Bool). not b) is
taken false v is = refl

pub assigned_at_once : (t : Target) (e : Expr) (w : World) (to : Variable) (k : Known) (v : Value) → aiming t w.database.objects w.frame.static ≡ Ok to → DirectlyIs e w k → Fits k to.ty v
    → AssignedAtOnce t e w to.at v
assigned_at_once t e w to k v aims d fits r at =
    assigns_to r at t e w to aims
    ∙ (assigned_is r at to e w
    ∙ (read_at_once e w (value_of k) (at_once e w k (value_of k) d refl) r at (put_at to at)
    ∙ (put_is to (value_of k) at w
    ∙ (as_type_ok to.ty (value_of k) at w (put_next to at) v (cond-true (is_assignable (value_of k) to.ty) (cast_to (value_of k) to.ty) _ fits.is_taken ∙ fits.is_value)
    ∙ kept_here (takes to.is_required v) (with_value to.at v w) at w (taken to.is_required v fits.not_null)))))
