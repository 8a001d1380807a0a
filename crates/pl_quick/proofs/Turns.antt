-- What came of a turn, by how its acts ended.
use Rattle.std.proofs.Common.{◌≡◌, ℕ, suc, Bool, true, false, List, Option, Some, None, if◌then◌else◌, refl, subst, sym}
use Rattle.std.specs.Prelude.{IfSome}
use Rattle.pl_bodies.specs.declared.statement.Statement.{Statement}
use Rattle.pl_direct.specs.declared.known.Known.TheVariants.{Bool as Truth}
use Rattle.pl_direct.specs.pl_scope.declared.resolve.ResolvedExpr.{ResolvedExpr}
use Rattle.pl_engine.specs.pl_world.Control.{turn}
use Rattle.pl_engine.specs.pl_world.Errors.{Spot}
use Rattle.pl_engine.specs.pl_world.Running.{Runner}
use Rattle.pl_engine.specs.pl_world.Statements.{runner_for}
use Rattle.pl_engine.specs.Texts.{do_bodies}
use Rattle.pl_engine.specs.pl_world.World.{Ran, World, ends}
use Rattle.pl_engine.specs.pl_world.declared.outcome.Outcome.{Outcome}
use Rattle.pl_engine.specs.pl_world.declared.outcome.Outcome.TheVariants as outcome
use Rattle.pl_names.specs.Names.{Name}
use Rattle.pl_quick.proofs.Computing.{at_once, becomes, turned_back, turned_on, turned_out}
use Rattle.pl_quick.proofs.Values.{tested_is}
use Rattle.pl_quick.specs.Acts.{AreFor, IsReadIf, RoundFits}
use Rattle.pl_quick.specs.Computing.{AllCompute, HasValue, IsAsked, OnlyComputed, TurnedAs, outcome_of, round}
use Rattle.pl_quick.specs.Scratch.{in_world}
use Rattle.pl_quick.specs.declared.act.Act.{Act}
use Rattle.pl_quick.specs.declared.acting.End.{End}
use Rattle.pl_quick.specs.declared.acting.End.TheVariants as end
use Rattle.pl_quick.specs.declared.scratch.Scratch.{Scratch}
use Rattle.pl_quick.specs.declared.turning.Round.{Round}
use Rattle.pl_quick.specs.declared.turning.Turned.{Turned}
use Rattle.pl_quick.specs.declared.turning.Turned.TheVariants as turns
use Rattle.pl_tree.specs.declared.tree.Expr.{Expr}

module _ (acts : List Act) (old mid : World) (taken : old.steps ≡ suc mid.steps) (is : mid ≡ record old { steps = mid.steps }) (new : World) where
  -- how they ended behind the step, if all of them were done
  abbrev pub Ended : End → Type 0
  Ended e = IfSome (outcome_of e) (λ o. (n : ℕ) (ss : List Statement) → AreFor n acts ss mid → AllCompute ss o mid new)

  behind : (n : ℕ) (body : List Statement) → AreFor n acts body old → AreFor n acts body mid
  behind n body stand = subst (λ (w : World). AreFor n acts body w) (sym is) stand

  pub by_next : (e : End) → e ≡ end.Next → Ended e → (n : ℕ) (body : List Statement) → AreFor n acts body old → TurnedAs turns.On None body old new
  by_next e same ended n body stand =
      let all : Ended end.Next = subst Ended same ended in
      turned_on taken is body new (all n body (behind n body stand))

  pub by_continue : (e : End) → e ≡ end.Continue → Ended e → (n : ℕ) (body : List Statement) → AreFor n acts body old → TurnedAs turns.On None body old new
  by_continue e same ended n body stand =
      let all : Ended end.Continue = subst Ended same ended in
      turned_back taken is body new (all n body (behind n body stand))

  pub by_exit : (e : End) → e ≡ end.Exit → Ended e → (n : ℕ) (body : List Statement) → AreFor n acts body old → TurnedAs turns.Over None body old new
  by_exit e same ended n body stand =
      let all : Ended end.Exit = subst Ended same ended in
      turned_out taken is body new (all n body (behind n body stand))

-- ---- rounds

-- where there is a turn, the round is the turn
is_turn : (x : Option ResolvedExpr) (condition : Option Expr) (r : Runner) (at : Spot) (label : Option Name) (body : List Statement) (w : World) (k : World → Ran Outcome) → IsReadIf x condition w → IsAsked x true w
    → round r at label condition body w k ≡ turn r at label body w k
is_turn None None r at label body w k read asked = refl
is_turn None (Some e) r at label body w k read asked = absurd read
is_turn (Some x) None r at label body w k read asked = absurd read
is_turn (Some x) (Some e) r at label body w k read asked = tested_is r at w e x true (λ is w. if is then turn r at label body w k else ends outcome.Next w) read asked

pub by_turn : (t : Turned) (x : Option ResolvedExpr) (condition : Option Expr) (body : List Statement) (old new : World) → IsReadIf x condition old → IsAsked x true old → TurnedAs t None body old new → TurnedAs t condition body old new
by_turn turns.On x condition body old new read asked turned = λ at label room k le. becomes (is_turn x condition (runner_for do_bodies room) at label body old k read asked) (turned at label room k le)
by_turn turns.Over x condition body old new read asked turned = λ at label room k le. becomes (is_turn x condition (runner_for do_bodies room) at label body old k read asked) (turned at label room k le)
by_turn turns.Left x condition body old new read asked turned = turned

-- where there is none, the loop is over
is_end : (x : Option ResolvedExpr) (condition : Option Expr) (r : Runner) (at : Spot) (label : Option Name) (body : List Statement) (w : World) (k : World → Ran Outcome) → IsReadIf x condition w → IsAsked x false w
    → round r at label condition body w k ≡ ends outcome.Next w
is_end None condition r at label body w k read asked = absurd (let no : false ≡ true = asked in cc)
is_end (Some x) None r at label body w k read asked = absurd read
is_end (Some x) (Some e) r at label body w k read asked = tested_is r at w e x false (λ is w. if is then turn r at label body w k else ends outcome.Next w) read asked

pub no_turn : (x : Option ResolvedExpr) (condition : Option Expr) (body : List Statement) (w : World) → IsReadIf x condition w → IsAsked x false w → TurnedAs turns.Over condition body w w
no_turn x condition body w read asked = λ at label room k le. at_once (is_end x condition (runner_for do_bodies room) at label body w k read asked) refl

-- ---- what is asked

pub asked_none : (x : Option ResolvedExpr) (w : World) → x ≡ None → IsAsked x true w
asked_none x w none = subst (λ (x : Option ResolvedExpr). IsAsked x true w) (sym none) refl

pub asked_some : (x : Option ResolvedExpr) (y : ResolvedExpr) (b : Bool) (w : World) → x ≡ Some y → HasValue y (Truth b) w → IsAsked x b w
asked_some x y b w some has = subst (λ (x : Option ResolvedExpr). IsAsked x b w) (sym some) has

-- ---- over an engine

module _ (w0 w1 w3 : World) (s1 s2 : Scratch) (before : in_world s1 w1 ≡ w0) (after : w3 ≡ in_world s2 w1) where
  pub only_between : OnlyComputed w0 w3
  only_between = subst (λ (w : World). OnlyComputed w w3) before (subst (λ (w : World). OnlyComputed (in_world s1 w1) w) (sym after) refl)

pub over_engine : (t : Turned) (condition : Option Expr) (body : List Statement) (w0 w1 w3 : World) (s1 s2 : Scratch) → in_world s1 w1 ≡ w0 → w3 ≡ in_world s2 w1 → TurnedAs t condition body (in_world s1 w1) (in_world s2 w1) → TurnedAs t condition body w0 w3
over_engine t condition body w0 w1 w3 s1 s2 before after turned =
    subst (λ (w : World). TurnedAs t condition body w w3) before (subst (λ (w : World). TurnedAs t condition body (in_world s1 w1) w) (sym after) turned)

-- neither objects nor names are other
pub fits_within : (r : Round) (condition : Option Expr) (body : List Statement) (w0 w1 : World) (s1 : Scratch) → in_world s1 w1 ≡ w0 → RoundFits r condition body w0 → RoundFits r condition body w1
fits_within r condition body w0 w1 s1 before fits = subst (λ (w : World). RoundFits r condition body w) (sym before) fits

-- the engine stands for the same world
pub same_only : (old new : World) → new ≡ old → OnlyComputed old new
same_only old new is = subst (λ (w : World). OnlyComputed old w) (sym is) refl
