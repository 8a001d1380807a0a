-- Runs that only compute, one behind another.
use Rattle.std.proofs.Common.{◌≡◌, ◌≢◌, ◌≤◌, ◌-◌, ◌∙◌, ℕ, suc, Bool, true, false, List, [], ◌∷◌, ◌++◌, Option, Some, None, ap, append-nil, arith, if◌then◌else◌, refl, subst, sym}
use Rattle.std.specs.Prelude.{IfSome}
use Rattle.pl_bodies.specs.declared.statement.Branch.{Branch, out-Branch}
use Rattle.pl_bodies.specs.declared.statement.Otherwise.{Otherwise}
use Rattle.pl_bodies.specs.declared.statement.Statement.{Statement, out-Statement}
use Rattle.pl_bodies.specs.declared.statement.StatementKind.{out-StatementKind}
use Rattle.pl_engine.proofs.Joins.{behind_behind, behind_none, outward-append, stepped_in-append}
use Rattle.pl_engine.specs.Texts.{do_bodies}
use Rattle.pl_engine.specs.pl_world.Control.{after_turn, branches, else_of, tested, turn}
use Rattle.pl_engine.specs.pl_world.Errors.{Spot, place}
use Rattle.pl_engine.specs.pl_world.Running.{Runner, all, on_next, spot_of, statement, stepped, stepped_by}
use Rattle.pl_engine.specs.pl_world.Scripts.{outward}
use Rattle.pl_engine.specs.pl_world.Statements.{form, run_within, runner_for, task_form}
use Rattle.pl_engine.specs.pl_world.Trace as trace
use Rattle.pl_engine.specs.pl_world.World.{Event, Ran, Stepped, World, and_then, behind, ends}
use Rattle.pl_engine.specs.pl_world.declared.outcome.Outcome.{Outcome}
use Rattle.pl_engine.specs.pl_world.declared.outcome.Outcome.TheVariants as outcome
use Rattle.pl_names.specs.Names.{Name}
use Rattle.pl_quick.specs.Computing.{AllCompute, BranchesCompute, Computes, FormComputes, OneComputes, TurnedAs, outcome_of}
use Rattle.pl_quick.specs.declared.acting.End.{End}
use Rattle.pl_quick.specs.declared.acting.End.TheVariants as end
use Rattle.pl_quick.specs.declared.turning.Turned.TheVariants as turns

-- ---- any runs

-- it is done without a step
pub at_once : {O : Type 0} {whole rest : Ran O} {old new : World} → whole ≡ rest → new.steps ≡ old.steps → Computes whole rest old new
at_once {O} {whole} {rest} {old} {new} is same = record { events = []; goes_on = is ∙ behind_none rest; silent = refl; spent = let less : new.steps ≡ old.steps = same in omega (arith, less) }

-- the whole may be written otherwise
pub becomes : {O : Type 0} {whole whole' rest : Ran O} {old new : World} → whole ≡ whole' → Computes whole' rest old new → Computes whole rest old new
becomes is c = record { events = c.events; goes_on = is ∙ c.goes_on; silent = c.silent; spent = c.spent }

pub further : {O : Type 0} {whole mids rest : Ran O} {old mid new : World} → Computes whole mids old mid → Computes mids rest mid new → Computes whole rest old new
further {O} {whole} {mids} {rest} {old} {mid} {new} c d = record {
  events = c.events ++ d.events;
  goes_on = c.goes_on ∙ (ap (λ (x : Ran O). behind c.events x) d.goes_on ∙ behind_behind c.events d.events rest);
  silent = outward-append c.events d.events ∙ (ap (λ (xs : List trace.Event). xs ++ outward d.events) c.silent ∙ d.silent);
  spent = let i = c.spent in let j = d.spent in let l = stepped_in-append c.events d.events in omega arith;
}

then_ends : {A B : Type 0} (es : List Event) (o : A) (w : World) (k : A → World → Ran B) → and_then (behind es (ends o w)) k ≡ behind es (k o w)
then_ends es o w k = ap (λ (xs : List Event). behind xs (k o w)) (append-nil es)

-- a part of it computes, and what is behind it goes on
pub on : {A B : Type 0} {first : Ran A} {o : A} {old mid : World} (k : A → World → Ran B) → Computes first (ends o mid) old mid → Computes (and_then first k) (k o mid) old mid
on {A} {B} {first} {o} {old} {mid} k c = record {
  events = c.events;
  goes_on = ap (λ (x : Ran A). and_then x k) c.goes_on ∙ then_ends c.events o mid k;
  silent = c.silent;
  spent = c.spent;
}

-- the whole and the rest may be written otherwise, over worlds where as many steps are left
pub alike : {O : Type 0} {whole whole' rest rest' : Ran O} {old old' new new' : World} → whole' ≡ whole → rest ≡ rest' → old'.steps ≡ old.steps → new'.steps ≡ new.steps → Computes whole rest old new → Computes whole' rest' old' new'
alike {O} {whole} {whole'} {rest} {rest'} {old} {old'} {new} {new'} is same before after c = record {
  events = c.events;
  goes_on = is ∙ (c.goes_on ∙ ap (λ (x : Ran O). behind c.events x) same);
  silent = c.silent;
  spent = let i = c.spent in let b : old'.steps ≡ old.steps = before in let a : new'.steps ≡ new.steps = after in omega (arith, i, b, a);
}

-- no step comes back
pub no_more : {O : Type 0} {whole rest : Ran O} {old new : World} → Computes whole rest old new → new.steps ≤ old.steps
no_more c = let i = c.spent in omega arith

-- ---- steps

pub one_step : (at : Spot) (w : World) (n : ℕ) (k : World → Ran Outcome) → w.steps ≡ suc n → Computes (stepped at w k) (k (record w { steps = n })) w (record w { steps = n })
unfolding stepped
one_step at w n k is = record {
  events = Stepped (place at w) ∷ [];
  goes_on = ap (λ (m : ℕ). stepped_by m at w k) is;
  silent = refl;
  spent = let taken : w.steps ≡ suc n = is in omega (arith, taken);
}

module _ {old mid : World} (taken : old.steps ≡ suc mid.steps) (is : mid ≡ record old { steps = mid.steps }) where
  pub step : (at : Spot) (k : World → Ran Outcome) → Computes (stepped at old k) (k mid) old mid
  step at k = subst (λ (w : World). Computes (stepped at old k) (k w) old w) (sym is) (one_step at old mid.steps k taken)

  within : (n : ℕ) (s : Statement) → run_within do_bodies (suc n) (statement s) old ≡ stepped (spot_of (statement s)) old (λ w. task_form (runner_for do_bodies n) (statement s) w)
  unfolding run_within
  within n s = refl

  form_is : (n : ℕ) (s : Statement) → task_form (runner_for do_bodies n) (statement s) mid ≡ form (runner_for do_bodies n) (spot_of (statement s)) (out-StatementKind (out-Statement s).kind) mid
  unfolding task_form
  form_is n s = refl

  -- a statement takes a step, and does what its form does
  pub once : (s : Statement) (o : Outcome) (new : World) → FormComputes (out-StatementKind (out-Statement s).kind) o mid new → OneComputes s o old new
  once s o new does room le =
      let more : room ≡ suc (room - 1) = omega (arith, taken, le) in
      let less : mid.steps ≤ room - 1 = omega (arith, taken, le) in
      becomes (ap (λ (n : ℕ). run_within do_bodies n (statement s) old) more ∙ within (room - 1) s)
      (further (step (spot_of (statement s)) (λ w. task_form (runner_for do_bodies (room - 1)) (statement s) w))
      (becomes (form_is (room - 1) s) (does (room - 1) (spot_of (statement s)) less)))

-- ---- statements one after another

all_cons : (r : Runner) (s : Statement) (ss : List Statement) (w : World) → all r (s ∷ ss) w ≡ and_then (r.run (statement s) w) (on_next (λ w. all r ss w))
unfolding all
all_cons r s ss w = refl

all_nil : (r : Runner) (w : World) → all r [] w ≡ ends outcome.Next w
unfolding all
all_nil r w = refl

pub none_of_all : (w : World) → AllCompute [] outcome.Next w w
none_of_all w room le = at_once (all_nil (runner_for do_bodies room) w) refl

pub all_on : (s : Statement) (ss : List Statement) (o : Outcome) (old mid new : World) → OneComputes s outcome.Next old mid → AllCompute ss o mid new → AllCompute (s ∷ ss) o old new
all_on s ss o old mid new one rest room le =
    let r = runner_for do_bodies room in
    let first = one room le in
    let fewer : mid.steps ≤ old.steps = no_more first in
    let room_for : mid.steps ≤ room = omega (arith, fewer, le) in
    becomes (all_cons r s ss old) (further (on (on_next (λ w. all r ss w)) first) (rest room room_for))

-- how the first ended, where it wasn't with Next
pub all_off : (e : End) (s : Statement) (ss : List Statement) (old new : World) → e ≢ end.Next → IfSome (outcome_of e) (λ o. OneComputes s o old new) → IfSome (outcome_of e) (λ o. AllCompute (s ∷ ss) o old new)
all_off end.Next s ss old new other one = absurd (other refl)
all_off end.Exit s ss old new other one = λ room le. becomes (all_cons (runner_for do_bodies room) s ss old) (on (on_next (λ w. all (runner_for do_bodies room) ss w)) (one room le))
all_off end.Continue s ss old new other one = λ room le. becomes (all_cons (runner_for do_bodies room) s ss old) (on (on_next (λ w. all (runner_for do_bodies room) ss w)) (one room le))
all_off (end.Return k) s ss old new other one = λ room le. becomes (all_cons (runner_for do_bodies room) s ss old) (on (on_next (λ w. all (runner_for do_bodies room) ss w)) (one room le))
all_off end.Left s ss old new other one = tt

-- ---- IF

branches_nil : (r : Runner) (at : Spot) (o : Option Otherwise) (w : World) → branches r at [] o w ≡ all r (else_of o) w
unfolding branches
branches_nil r at o w = refl

abbrev branch_next : Runner → Spot → Branch → List Branch → Option Otherwise → Bool → World → Ran Outcome
branch_next r at b bs o is w = if is then all r (out-Branch b).statements w else branches r at bs o w

branches_cons : (r : Runner) (at : Spot) (b : Branch) (bs : List Branch) (o : Option Otherwise) (w : World) → branches r at (b ∷ bs) o w ≡ tested r at (out-Branch b).condition w (branch_next r at b bs o)
unfolding branches
branches_cons r at b bs o w = refl

-- the condition is true or not at once, whatever goes on
abbrev pub Tests : Branch → Bool → World → Type 0
Tests b is w = (r : Runner) (at : Spot) (k : Bool → World → Ran Outcome) → tested r at (out-Branch b).condition w k ≡ k is w

pub otherwise_does : (o : Option Otherwise) (end : Outcome) (old new : World) → AllCompute (else_of o) end old new → BranchesCompute [] o end old new
otherwise_does o end old new does room at le = becomes (branches_nil (runner_for do_bodies room) at o old) (does room le)

pub branch_does : (b : Branch) (bs : List Branch) (o : Option Otherwise) (end : Outcome) (old new : World) → Tests b true old → AllCompute (out-Branch b).statements end old new → BranchesCompute (b ∷ bs) o end old new
branch_does b bs o end old new tests does room at le =
    let r = runner_for do_bodies room in
    becomes (branches_cons r at b bs o old ∙ tests r at (branch_next r at b bs o)) (does room le)

pub others_do : (b : Branch) (bs : List Branch) (o : Option Otherwise) (end : Outcome) (old new : World) → Tests b false old → BranchesCompute bs o end old new → BranchesCompute (b ∷ bs) o end old new
others_do b bs o end old new tests does room at le =
    let r = runner_for do_bodies room in
    becomes (branches_cons r at b bs o old ∙ tests r at (branch_next r at b bs o)) (does room at le)

-- ---- turns

turn_is : (r : Runner) (at : Spot) (label : Option Name) (body : List Statement) (w : World) (k : World → Ran Outcome) → turn r at label body w k ≡ stepped at w (λ w. and_then (all r body w) (after_turn label k))
unfolding turn
turn_is r at label body w k = refl

module _ {old mid : World} (taken : old.steps ≡ suc mid.steps) (is : mid ≡ record old { steps = mid.steps }) (body : List Statement) (new : World) where
  turned : (o : Outcome) → AllCompute body o mid new → (at : Spot) (label : Option Name) (room : ℕ) (k : World → Ran Outcome) → old.steps ≤ room
      → Computes (turn (runner_for do_bodies room) at label body old k) (after_turn label k o new) old new
  turned o does at label room k le =
      let r = runner_for do_bodies room in
      let less : mid.steps ≤ room = omega (arith, taken, le) in
      becomes (turn_is r at label body old k) (further (step taken is at (λ w. and_then (all r body w) (after_turn label k))) (on (after_turn label k) (does room less)))

  own_exit : (label : Option Name) (k : World → Ran Outcome) → after_turn label k (outcome.Exit None) new ≡ ends outcome.Next new
  own_exit None k = refl
  own_exit (Some l) k = refl

  own_continue : (label : Option Name) (k : World → Ran Outcome) → after_turn label k (outcome.Continue None) new ≡ k new
  own_continue None k = refl
  own_continue (Some l) k = refl

  rest_is : {rest rest' : Ran Outcome} {whole : Ran Outcome} → rest ≡ rest' → Computes whole rest old new → Computes whole rest' old new
  rest_is {rest} {rest'} {whole} same c = subst (λ (x : Ran Outcome). Computes whole x old new) same c

  pub turned_on : AllCompute body outcome.Next mid new → TurnedAs turns.On None body old new
  turned_on does at label room k le = turned outcome.Next does at label room k le

  pub turned_back : AllCompute body (outcome.Continue None) mid new → TurnedAs turns.On None body old new
  turned_back does at label room k le = rest_is (own_continue label k) (turned (outcome.Continue None) does at label room k le)

  pub turned_out : AllCompute body (outcome.Exit None) mid new → TurnedAs turns.Over None body old new
  turned_out does at label room k le = rest_is (own_exit label k) (turned (outcome.Exit None) does at label room k le)
