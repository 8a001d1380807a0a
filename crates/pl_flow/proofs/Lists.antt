-- Branches, arms and declarations one after another.
use Rattle.std.proofs.Common.{◌≡◌, ◌≢◌, ◌<◌, ◌≤◌, ◌+◌, ◌∙◌, ℕ, Bool, List, [], ◌∷◌, Option, add-one, ap, drop, drop-cons, drop_of_length-le, get_or, if◌then◌else◌, length, refl, subst, sym}
use Rattle.pl_bodies.specs.declared.declaration.Declaration.{Declaration}
use Rattle.pl_bodies.specs.declared.statement.Branch.{Branch, out-Branch}
use Rattle.pl_bodies.specs.declared.statement.CaseArm.{CaseArm, out-CaseArm}
use Rattle.pl_bodies.specs.declared.statement.Otherwise.{Otherwise}
use Rattle.pl_engine.proofs.Joins.{Lawful, becomes, ended, on, stopped, within}
use Rattle.pl_engine.specs.Answers.{Done, Partway, Stopped}
use Rattle.pl_engine.specs.Asks.{truth}
use Rattle.pl_engine.specs.Engines.{world}
use Rattle.pl_engine.specs.declared.engine.Engine.{Engine}
use Rattle.pl_engine.specs.declared.port.Port.{Ghosts}
use Rattle.pl_engine.specs.declared.stop.Stop.{Stop}
use Rattle.pl_flow.proofs.Asked.{on_truth, tested_is, tested_one_is}
use Rattle.pl_tree.specs.declared.tree.Expr.{Expr}
use Rattle.pl_engine.specs.pl_world.Blocks.{all_declared, one_declared}
use Rattle.pl_engine.specs.pl_world.Control.{branches, else_of, not_found, searched, tested, tested_one}
use Rattle.pl_engine.specs.pl_world.Errors.{Spot}
use Rattle.pl_engine.specs.pl_world.Running.{Runner, all, on_next}
use Rattle.pl_engine.specs.pl_world.World.{Ran, World, and_then, ends}
use Rattle.pl_engine.specs.pl_world.declared.outcome.Outcome.{Outcome}
use Rattle.pl_engine.specs.pl_world.declared.outcome.Outcome.TheVariants as outcome

front : {A : Type 0} (xs : List A) (i : ℕ) (x : A) → i < length xs → x ≡ get_or xs i x → drop i xs ≡ x ∷ drop (i + 1) xs
front xs i x lt is = rw (add-one, drop-cons xs i x lt, ← is) refl

pub all_none : (r : Runner) (w : World) → all r [] w ≡ ends outcome.Next w
unfolding all
all_none r w = refl

-- ---- IF

module _ (r : Runner) (at : Spot) (or_else : Option Otherwise) where
  abbrev pub branch_next : Branch → List Branch → Bool → World → Ran Outcome
  branch_next b bs is w = if is then all r (out-Branch b).statements w else branches r at bs or_else w

  branches_cons : (b : Branch) (bs : List Branch) (w : World) → branches r at (b ∷ bs) or_else w ≡ tested r at (out-Branch b).condition w (branch_next b bs)
  unfolding branches
  branches_cons b bs w = refl

  branches_nil : (w : World) → branches r at [] or_else w ≡ all r (else_of or_else) w
  unfolding branches
  branches_nil w = refl

  module _ {P : Type 0} {port : Ghosts P} (law : Lawful port) {whole : Ran Outcome} {old mid : Engine} {p m : P} (bs : List Branch) (i : ℕ) (way : Partway port whole (branches r at (drop i bs) or_else (world mid)) old mid p m) where
    pub branch_here : (b : Branch) → i < length bs → b ≡ get_or bs i b
        → Partway port whole (and_then (tested r at (out-Branch b).condition (world mid) truth) (on_truth (branch_next b (drop (i + 1) bs)))) old mid p m
    branch_here b lt is = becomes law way (ap (λ (ys : List Branch). branches r at ys or_else (world mid)) (front bs i b lt is)
        ∙ (branches_cons b (drop (i + 1) bs) (world mid) ∙ tested_is r at (out-Branch b).condition (world mid) (branch_next b (drop (i + 1) bs))))

    pub branches_end : length bs ≤ i → Partway port whole (all r (else_of or_else) (world mid)) old mid p m
    branches_end le = becomes law way (ap (λ (ys : List Branch). branches r at ys or_else (world mid)) (drop_of_length-le bs le) ∙ branches_nil (world mid))

-- ---- CASE with conditions

module _ (r : Runner) (at : Spot) (or_else : Option Otherwise) where
  abbrev pub arm_next : CaseArm → List CaseArm → Bool → World → Ran Outcome
  arm_next a arms is w = if is then all r (out-CaseArm a).statements w else searched r at arms or_else w

  arms_cons : (a : CaseArm) (arms : List CaseArm) (w : World) → searched r at (a ∷ arms) or_else w ≡ tested_one r at (out-CaseArm a).values w (arm_next a arms)
  unfolding searched
  arms_cons a arms w = refl

  arms_nil : (w : World) → searched r at [] or_else w ≡ not_found r at or_else w
  unfolding searched
  arms_nil w = refl

  module _ {P : Type 0} {port : Ghosts P} (law : Lawful port) {whole : Ran Outcome} {old mid : Engine} {p m : P} (arms : List CaseArm) (i : ℕ) (way : Partway port whole (searched r at (drop i arms) or_else (world mid)) old mid p m) where
    pub arm_here : (a : CaseArm) (xs : List Expr) → i < length arms → a ≡ get_or arms i a → xs ≡ (out-CaseArm a).values
        → Partway port whole (and_then (tested_one r at xs (world mid) truth) (on_truth (arm_next a (drop (i + 1) arms)))) old mid p m
    arm_here a xs lt is same = becomes law way (ap (λ (ys : List CaseArm). searched r at ys or_else (world mid)) (front arms i a lt is)
        ∙ (arms_cons a (drop (i + 1) arms) (world mid) ∙ (ap (λ (xs : List Expr). tested_one r at xs (world mid) (arm_next a (drop (i + 1) arms))) (sym same)
        ∙ tested_one_is r at xs (world mid) (arm_next a (drop (i + 1) arms)))))

    pub arms_end : length arms ≤ i → Partway port whole (not_found r at or_else (world mid)) old mid p m
    arms_end le = becomes law way (ap (λ (ys : List CaseArm). searched r at ys or_else (world mid)) (drop_of_length-le arms le) ∙ arms_nil (world mid))

-- ---- declarations

module _ {P : Type 0} {port : Ghosts P} (law : Lawful port) {whole : Ran Outcome} {old mid : Engine} {p m : P} (k : World → Ran Outcome) {first : Ran Outcome} (here : Partway port whole (and_then first (on_next k)) old mid p m) where
  pub next_on : {new : Engine} {q : P} (o : Outcome) → Done port first o mid new m q → o ≡ outcome.Next → Partway port whole (k (world new)) old new p q
  next_on {new} {q} o d next = on law (on_next k) here (subst (λ (o : Outcome). Done port first o mid new m q) next d)

  pub next_off : {new : Engine} {q : P} (o : Outcome) → Done port first o mid new m q → o ≢ outcome.Next → Done port whole o old new p q
  next_off outcome.Next d other = absurd (other refl)
  next_off (outcome.Exit to) d other = ended law (on law (on_next k) here d) refl
  next_off (outcome.Continue to) d other = ended law (on law (on_next k) here d) refl
  next_off (outcome.Return v) d other = ended law (on law (on_next k) here d) refl
  next_off (outcome.Fail f) d other = ended law (on law (on_next k) here d) refl

  pub next_stopped : {stop : Stop} {q : P} → Stopped port first stop mid m q → Stopped port whole stop old p q
  next_stopped s = stopped law here (within law (on_next k) s)

module _ (r : Runner) (at : Spot) where
  abbrev pub declared_next : List Declaration → World → Ran Outcome
  declared_next ds w = all_declared r at ds w

  declared_cons : (d : Declaration) (ds : List Declaration) (w : World) → all_declared r at (d ∷ ds) w ≡ and_then (one_declared r at d.name d.kind w) (on_next (declared_next ds))
  unfolding all_declared
  declared_cons d ds w = refl

  declared_nil : (w : World) → all_declared r at [] w ≡ ends outcome.Next w
  unfolding all_declared
  declared_nil w = refl

  module _ {P : Type 0} {port : Ghosts P} (law : Lawful port) {whole : Ran Outcome} {old mid : Engine} {p m : P} (ds : List Declaration) (i : ℕ) (way : Partway port whole (all_declared r at (drop i ds) (world mid)) old mid p m) where
    pub declared_here : (d : Declaration) → i < length ds → d ≡ get_or ds i d
        → Partway port whole (and_then (one_declared r at d.name d.kind (world mid)) (on_next (declared_next (drop (i + 1) ds)))) old mid p m
    declared_here d lt is = becomes law way (ap (λ (ys : List Declaration). all_declared r at ys (world mid)) (front ds i d lt is) ∙ declared_cons d (drop (i + 1) ds) (world mid))

    pub declared_end : length ds ≤ i → Done port whole outcome.Next old mid p m
    declared_end le = ended law (becomes law way (ap (λ (ys : List Declaration). all_declared r at ys (world mid)) (drop_of_length-le ds le) ∙ declared_nil (world mid))) refl
