-- What acts do, form by form, and one after another.
use Rattle.std.proofs.Common.{◌≡◌, ◌≢◌, ◌<◌, ◌+◌, ◌∙◌, ℕ, zero, suc, true, false, List, [], ◌∷◌, Option, None, Some, add-one, ap, arith, drop, drop-cons, get_or, length, refl, rules, subst, sym}
use Rattle.std.specs.Prelude.{IfSome}
use Rattle.pl_base.specs.declared.types.Ty.{Ty}
use Rattle.pl_bodies.specs.declared.simple.Jump.{Jump}
use Rattle.pl_bodies.specs.declared.simple.Simple.TheVariants as simple
use Rattle.pl_bodies.specs.declared.simple.Target.{Target}
use Rattle.pl_bodies.specs.declared.statement.Branch.{Branch, out-Branch}
use Rattle.pl_bodies.specs.declared.statement.Otherwise.{Otherwise}
use Rattle.pl_bodies.specs.declared.statement.Statement.{Statement, out-Statement}
use Rattle.pl_bodies.specs.declared.statement.StatementKind.{out-StatementKind}
use Rattle.pl_direct.specs.Known.{value_of}
use Rattle.pl_direct.specs.declared.known.Known.{Known}
use Rattle.pl_direct.specs.declared.known.Known.TheVariants.{Bool as Truth}
use Rattle.pl_direct.specs.pl_scope.declared.resolve.ResolvedExpr.{ResolvedExpr}
use Rattle.pl_engine.specs.pl_world.Control.{else_of, jumps, returns}
use Rattle.pl_engine.specs.pl_world.Errors.{Spot}
use Rattle.pl_engine.specs.pl_world.Running.{Runner}
use Rattle.pl_engine.specs.pl_world.Statements.{Layer, form, runner_for, simple_form}
use Rattle.pl_engine.specs.Texts.{do_bodies}
use Rattle.pl_engine.specs.pl_world.World.{World, ends}
use Rattle.pl_engine.specs.pl_world.declared.outcome.Outcome.{Outcome}
use Rattle.pl_engine.specs.pl_world.declared.outcome.Outcome.TheVariants as outcome
use Rattle.pl_quick.proofs.Computing.{all_off, all_on, at_once, becomes, branch_does, none_of_all, once, others_do, otherwise_does}
use Rattle.pl_quick.proofs.Values.{null_form, of_if, of_jump, of_return, of_simple, tested_is}
use Rattle.pl_quick.specs.Acts.{ActLayer, AreFor, AreForBranches, IsForForm, IsForLayer, IsForOne, IsGiven, IsReadIf, IsReturned}
use Rattle.pl_quick.specs.Computing.{AllCompute, BranchesCompute, FormComputes, HasValue, OneComputes, OnlyComputed, outcome_of}
use Rattle.pl_quick.specs.declared.act.Act.{Act, out-Act, the_lemmas}
use Rattle.pl_quick.specs.declared.act.Act.TheOpen as l
use Rattle.pl_quick.specs.declared.act.Act.TheVariants as act
use Rattle.pl_quick.specs.declared.act.Arm.{Arm, out-Arm}
use Rattle.pl_quick.specs.declared.act.Assign.{Assign}
use Rattle.pl_quick.specs.declared.acting.End.{End}
use Rattle.pl_quick.specs.declared.acting.End.TheVariants as end
use Rattle.pl_tree.specs.declared.tree.Expr.{Expr}

-- ---- one level of an act

abbrev pub nothing_layer : ActLayer
nothing_layer = l.Nothing

abbrev pub assign_layer : Assign → ActLayer
assign_layer a = l.Assign a

abbrev pub jump_layer : Jump → Option ResolvedExpr → ActLayer
jump_layer j x = l.Jump j x

abbrev pub choose_layer : List Arm → List Act → ActLayer
choose_layer arms acts = l.Choose arms acts

pub nothing_out : out-Act act.Nothing ≡ nothing_layer
nothing_out = first_of (search (rules, the_lemmas), grind (arith, the_lemmas))

pub assign_out : (a : Assign) → out-Act (act.Assign a) ≡ assign_layer a
assign_out a = first_of (search (rules, the_lemmas), grind (arith, the_lemmas))

pub jump_out : (j : Jump) (x : Option ResolvedExpr) → out-Act (act.Jump j x) ≡ jump_layer j x
jump_out j x = first_of (search (rules, the_lemmas), grind (arith, the_lemmas))

abbrev pub call_layer : Assign → Ty → List Act → ActLayer
call_layer a ty acts = l.Call a ty acts

abbrev pub return_layer : ResolvedExpr → ActLayer
return_layer x = l.Return x

pub call_out : (a : Assign) (ty : Ty) (acts : List Act) → out-Act (act.Call a ty acts) ≡ call_layer a ty acts
call_out a ty acts = first_of (search (rules, the_lemmas), grind (arith, the_lemmas))

pub return_out : (x : ResolvedExpr) → out-Act (act.Return x) ≡ return_layer x
return_out x = first_of (search (rules, the_lemmas), grind (arith, the_lemmas))

pub choose_out : (arms : List Arm) (acts : List Act) → out-Act (act.Choose arms acts) ≡ choose_layer arms acts
choose_out arms acts = first_of (search (rules, the_lemmas), grind (arith, the_lemmas))

-- ---- forms

module _ (n : ℕ) (k : Layer) (w : World) where
  pub opened : (a : Act) (y : ActLayer) → out-Act a ≡ y → IsForForm n a k w → IsForLayer n y k w
  opened a y is stands = subst (λ (y : ActLayer). IsForLayer n y k w) is stands

  pub nothing_does : (a : Act) → a ≡ act.Nothing → IsForForm n a k w → FormComputes k outcome.Next w w
  nothing_does a is stands room at le =
      let r = runner_for do_bodies room in
      let same = opened a nothing_layer (ap (λ (a : Act). out-Act a) is ∙ nothing_out) stands in
      at_once (ap (λ (k : Layer). form r at k w) same ∙ null_form r at w) refl

  pub assign_does : (a : Act) (x x' : Assign) (o : Outcome) (new : World) → a ≡ act.Assign x → x' ≡ x → new.steps ≡ w.steps
      → ((r : Runner) (at : Spot) (t : Target) (e : Expr) → IsGiven x' t e w → simple_form r at (simple.Assign t e) w ≡ ends o new) → IsForForm n a k w → FormComputes k o w new
  assign_does a x x' o new is same steps gives stands room at le =
      let r = runner_for do_bodies room in
      let there = opened a (assign_layer x) (ap (λ (a : Act). out-Act a) is ∙ assign_out x) stands in
      at_once (ap (λ (k : Layer). form r at k w) there.2 ∙ (of_simple r at w (simple.Assign there.0 there.1) ∙ gives r at there.0 there.1 (subst (λ (x : Assign). IsGiven x there.0 there.1 w) (sym same) there.3))) steps

  pub jump_does : (a : Act) (j : Jump) (x x' : Option ResolvedExpr) (o : Outcome) → a ≡ act.Jump j x → x' ≡ x
      → ((r : Runner) (at : Spot) (e : Option Expr) → IsReadIf x' e w → jumps r at j None e w ≡ ends o w) → IsForForm n a k w → FormComputes k o w w
  jump_does a j x x' o is same leaves stands room at le =
      let r = runner_for do_bodies room in
      let there = opened a (jump_layer j x) (ap (λ (a : Act). out-Act a) is ∙ jump_out j x) stands in
      at_once (ap (λ (k : Layer). form r at k w) there.1 ∙ (of_jump r at w j there.0 ∙ leaves r at there.0 (subst (λ (x : Option ResolvedExpr). IsReadIf x there.0 w) (sym same) there.2))) refl

  pub return_does : (a : Act) (x x' : ResolvedExpr) (o : Outcome) → a ≡ act.Return x → x' ≡ x
      → ((r : Runner) (at : Spot) (e : Expr) → IsReturned x' e w → returns r at (Some e) w ≡ ends o w) → IsForForm n a k w → FormComputes k o w w
  return_does a x x' o is same gives stands room at le =
      let r = runner_for do_bodies room in
      let there = opened a (return_layer x) (ap (λ (a : Act). out-Act a) is ∙ return_out x) stands in
      at_once (ap (λ (k : Layer). form r at k w) there.1 ∙ (of_return r at w there.0 ∙ gives r at there.0 (subst (λ (x : ResolvedExpr). IsReturned x there.0 w) (sym same) there.2))) refl

  pub choice_does : (a : Act) (arms arms' : List Arm) (acts acts' : List Act) (o : Outcome) (new : World) → a ≡ act.Choose arms acts → arms' ≡ arms → acts' ≡ acts
      → ((n : ℕ) (bs : List Branch) (e : Option Otherwise) → AreForBranches n arms' bs w → AreFor n acts' (else_of e) w → BranchesCompute bs e o w new) → IsForForm n a k w → FormComputes k o w new
  choice_does a arms arms' acts acts' o new is same-arms same-acts chooses stands room at le =
      let r = runner_for do_bodies room in
      let there = opened a (choose_layer arms acts) (ap (λ (a : Act). out-Act a) is ∙ choose_out arms acts) stands in
      becomes (ap (λ (k : Layer). form r at k w) there.2 ∙ of_if r at w there.0 there.1)
      (chooses n there.0 there.1 (subst (λ (xs : List Arm). AreForBranches n xs there.0 w) (sym same-arms) there.3)
      (subst (λ (xs : List Act). AreFor n xs (else_of there.1) w) (sym same-acts) there.4) room at le)

-- ---- a statement

-- the world behind a step has the same objects and names
pub one_does : (n : ℕ) (a : Act) (s : Statement) (o : Outcome) (old mid new : World) → old.steps ≡ suc mid.steps → mid ≡ record old { steps = mid.steps }
    → ((n : ℕ) (k : Layer) → IsForForm n a k mid → FormComputes k o mid new) → IsForOne n a s old → OneComputes s o old new
one_does zero a s o old mid new taken is does stands = absurd stands
one_does (suc n) a s o old mid new taken is does stands =
    once taken is s o new (does n (out-StatementKind (out-Statement s).kind) (subst (λ (w : World). IsForForm n a (out-StatementKind (out-Statement s).kind) w) (sym is) stands))

-- ---- one after another

moved : (n : ℕ) (acts : List Act) (ss : List Statement) (old mid : World) → OnlyComputed old mid → AreFor n acts ss old → AreFor n acts ss mid
moved n acts ss old mid only stand = subst (λ (w : World). AreFor n acts ss w) (sym only) stand

-- if the acts that are left lead from now to a new world, then all of them lead to it from the first one
abbrev pub AllBy : List Act → List Act → (first now : World) → Type 0
AllBy all left first now =
    (n : ℕ) (o : Outcome) (new : World) → ((ss : List Statement) → AreFor n left ss now → AllCompute ss o now new) → (ss : List Statement) → AreFor n all ss first → AllCompute ss o first new

pub all_left : (acts : List Act) (w : World) → AllBy acts acts w w
all_left acts w n o new does = does

no_acts : (n : ℕ) (ss : List Statement) (w : World) → AreFor n [] ss w → AllCompute ss outcome.Next w w
no_acts n [] w stand = none_of_all w
no_acts n (s ∷ ss) w stand = absurd stand

pub none_left : (all left : List Act) (first now : World) → AllBy all left first now → left ≡ [] → (n : ℕ) (ss : List Statement) → AreFor n all ss first → AllCompute ss outcome.Next first now
none_left all left first now so_far none n = so_far n outcome.Next now (λ ss stand. no_acts n ss now (subst (λ (xs : List Act). AreFor n xs ss now) none stand))

one_on : (n : ℕ) (a : Act) (rest : List Act) (ss : List Statement) (o : Outcome) (old mid new : World) → OnlyComputed old mid
    → ((n : ℕ) (s : Statement) → IsForOne n a s old → OneComputes s outcome.Next old mid) → ((ss : List Statement) → AreFor n rest ss mid → AllCompute ss o mid new)
    → AreFor n (a ∷ rest) ss old → AllCompute ss o old new
one_on n a rest [] o old mid new only one all stand = absurd stand
one_on n a rest (s ∷ ss) o old mid new only one all stand = all_on s ss o old mid new (one n s stand.0) (all ss (moved n rest ss old mid only stand.1))

-- the first of those that are left ended with Next
pub acts_on : (all left : List Act) (a : Act) (rest : List Act) (first old mid : World) → AllBy all left first old → left ≡ a ∷ rest → OnlyComputed old mid → ((n : ℕ) (s : Statement) → IsForOne n a s old → OneComputes s outcome.Next old mid)
    → AllBy all rest first mid
acts_on all left a rest first old mid so_far is only one n o new does =
    so_far n o new (λ ss stand. one_on n a rest ss o old mid new only one does (subst (λ (xs : List Act). AreFor n xs ss old) is stand))

exited : (n : ℕ) (a : Act) (rest : List Act) (ss : List Statement) (old new : World) → ((n : ℕ) (s : Statement) → IsForOne n a s old → OneComputes s (outcome.Exit None) old new) → AreFor n (a ∷ rest) ss old → AllCompute ss (outcome.Exit None) old new
exited n a rest [] old new one stand = absurd stand
exited n a rest (s ∷ ss) old new one stand = all_off end.Exit s ss old new (λ same. let no : end.Exit ≡ end.Next = same in cc) (one n s stand.0)

continued : (n : ℕ) (a : Act) (rest : List Act) (ss : List Statement) (old new : World) → ((n : ℕ) (s : Statement) → IsForOne n a s old → OneComputes s (outcome.Continue None) old new) → AreFor n (a ∷ rest) ss old → AllCompute ss (outcome.Continue None) old new
continued n a rest [] old new one stand = absurd stand
continued n a rest (s ∷ ss) old new one stand = all_off end.Continue s ss old new (λ same. let no : end.Continue ≡ end.Next = same in cc) (one n s stand.0)

returned : (n : ℕ) (a : Act) (rest : List Act) (ss : List Statement) (old new : World) (k : Known) → ((n : ℕ) (s : Statement) → IsForOne n a s old → OneComputes s (outcome.Return (value_of k)) old new) → AreFor n (a ∷ rest) ss old
    → AllCompute ss (outcome.Return (value_of k)) old new
returned n a rest [] old new k one stand = absurd stand
returned n a rest (s ∷ ss) old new k one stand = all_off (end.Return k) s ss old new (λ same. let no : end.Return k ≡ end.Next = same in cc) (one n s stand.0)

-- the first of those that are left ended otherwise
pub acts_off : (e : End) (all left : List Act) (a : Act) (rest : List Act) (first old new : World) → e ≢ end.Next → AllBy all left first old → left ≡ a ∷ rest → IfSome (outcome_of e) (λ o. (n : ℕ) (s : Statement) → IsForOne n a s old → OneComputes s o old new)
    → IfSome (outcome_of e) (λ o. (n : ℕ) (ss : List Statement) → AreFor n all ss first → AllCompute ss o first new)
acts_off end.Next all left a rest first old new other so_far is one = absurd (other refl)
acts_off end.Exit all left a rest first old new other so_far is one =
    λ n. so_far n (outcome.Exit None) new (λ ss stand. exited n a rest ss old new one (subst (λ (xs : List Act). AreFor n xs ss old) is stand))
acts_off end.Continue all left a rest first old new other so_far is one =
    λ n. so_far n (outcome.Continue None) new (λ ss stand. continued n a rest ss old new one (subst (λ (xs : List Act). AreFor n xs ss old) is stand))
acts_off (end.Return k) all left a rest first old new other so_far is one =
    λ n. so_far n (outcome.Return (value_of k)) new (λ ss stand. returned n a rest ss old new k one (subst (λ (xs : List Act). AreFor n xs ss old) is stand))
acts_off end.Left all left a rest first old new other so_far is one = tt

-- ---- IF

-- if the arms that are left choose so, then all of them do
abbrev pub ChosenBy : List Arm → List Arm → (first now : World) → Type 0
ChosenBy all left first now =
    (n : ℕ) (e : Option Otherwise) (o : Outcome) (new : World) → ((bs : List Branch) → AreForBranches n left bs now → BranchesCompute bs e o now new)
    → (bs : List Branch) → AreForBranches n all bs first → BranchesCompute bs e o first new

pub all_arms_left : (arms : List Arm) (w : World) → ChosenBy arms arms w w
all_arms_left arms w n e o new chooses = chooses

no_arms : (n : ℕ) (acts : List Act) (bs : List Branch) (e : Option Otherwise) (o : Outcome) (old new : World) → ((n : ℕ) (ss : List Statement) → AreFor n acts ss old → AllCompute ss o old new) → AreFor n acts (else_of e) old → AreForBranches n [] bs old
    → BranchesCompute bs e o old new
no_arms n acts [] e o old new all otherwise stand = otherwise_does e o old new (all n (else_of e) otherwise)
no_arms n acts (b ∷ bs) e o old new all otherwise stand = absurd stand

-- none is true, and what ELSE has is done
pub no_arm_left : (arms left : List Arm) (acts : List Act) (o : Outcome) (first now new : World) → ChosenBy arms left first now → left ≡ [] → first ≡ now → ((n : ℕ) (ss : List Statement) → AreFor n acts ss now → AllCompute ss o now new)
    → (n : ℕ) (bs : List Branch) (e : Option Otherwise) → AreForBranches n arms bs first → AreFor n acts (else_of e) first → BranchesCompute bs e o first new
no_arm_left arms left acts o first now new so_far none same all n bs e stand otherwise =
    so_far n e o new (λ bs stand. no_arms n acts bs e o now new all (subst (λ (w : World). AreFor n acts (else_of e) w) same otherwise) (subst (λ (xs : List Arm). AreForBranches n xs bs now) none stand)) bs stand

one_arm : (n : ℕ) (a : Arm) (rest : List Arm) (acts : List Act) (bs : List Branch) (e : Option Otherwise) (o : Outcome) (old new : World) → acts ≡ (out-Arm a).acts → HasValue (out-Arm a).condition (Truth true) old
    → ((n : ℕ) (ss : List Statement) → AreFor n acts ss old → AllCompute ss o old new) → AreForBranches n (a ∷ rest) bs old → BranchesCompute bs e o old new
one_arm n a rest acts [] e o old new same has all stand = absurd stand
one_arm n a rest acts (b ∷ bs) e o old new same has all stand =
    branch_does b bs e o old new (λ r at k. tested_is r at old (out-Branch b).condition (out-Arm a).condition true k stand.0.0 has)
    (all n (out-Branch b).statements (subst (λ (xs : List Act). AreFor n xs (out-Branch b).statements old) (sym same) stand.0.1))

-- the condition of the first of those that are left is true
pub arm_does : (arms left : List Arm) (a : Arm) (rest : List Arm) (acts : List Act) (o : Outcome) (first now new : World) → ChosenBy arms left first now → left ≡ a ∷ rest → acts ≡ (out-Arm a).acts → HasValue (out-Arm a).condition (Truth true) now
    → ((n : ℕ) (ss : List Statement) → AreFor n acts ss now → AllCompute ss o now new) → (n : ℕ) (bs : List Branch) (e : Option Otherwise) → AreForBranches n arms bs first → BranchesCompute bs e o first new
arm_does arms left a rest acts o first now new so_far is same has all n bs e =
    so_far n e o new (λ bs stand. one_arm n a rest acts bs e o now new same has all (subst (λ (xs : List Arm). AreForBranches n xs bs now) is stand)) bs

other_arm : (n : ℕ) (a : Arm) (rest : List Arm) (bs : List Branch) (e : Option Otherwise) (o : Outcome) (old new : World) → HasValue (out-Arm a).condition (Truth false) old → ((bs : List Branch) → AreForBranches n rest bs old → BranchesCompute bs e o old new)
    → AreForBranches n (a ∷ rest) bs old → BranchesCompute bs e o old new
other_arm n a rest [] e o old new has chooses stand = absurd stand
other_arm n a rest (b ∷ bs) e o old new has chooses stand =
    others_do b bs e o old new (λ r at k. tested_is r at old (out-Branch b).condition (out-Arm a).condition false k stand.0.0 has) (chooses bs stand.1)

-- it isn't
pub others_left : (arms left : List Arm) (a : Arm) (rest : List Arm) (first now : World) → ChosenBy arms left first now → left ≡ a ∷ rest → HasValue (out-Arm a).condition (Truth false) now → ChosenBy arms rest first now
others_left arms left a rest first now so_far is has n e o new chooses =
    so_far n e o new (λ bs stand. other_arm n a rest bs e o now new has chooses (subst (λ (xs : List Arm). AreForBranches n xs bs now) is stand))

-- ---- lists

pub front : {A : Type 0} (xs : List A) (i : ℕ) (x : A) → i < length xs → x ≡ get_or xs i x → drop i xs ≡ x ∷ drop (i + 1) xs
front xs i x lt is = rw (add-one, drop-cons xs i x lt, ← is) refl
