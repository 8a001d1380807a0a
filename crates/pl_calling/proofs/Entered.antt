-- Proofs that other crates' proofs may cite; no definition. Calls of routines: what the body runs in, and what is left behind it.
use Rattle.std.proofs.Common.{◌≡◌, ◌∙◌, ℕ, Bool, true, false, List, [], ◌∷◌, Option, Some, None, Result, Ok, Err, IfOk, ap, arith, drop, if◌then◌else◌, length, nat_lt, refl, subst, sym}
use Rattle.pl_base.specs.States.{INTERNAL_ERROR, STATEMENT_TOO_COMPLEX}
use Rattle.pl_base.specs.declared.state.State.{State}
use Rattle.pl_base.specs.declared.types.Ty.{Ty}
use Rattle.pl_base.specs.declared.value.Value.{Value}
use Rattle.pl_bodies.specs.declared.statement.Body.{Body}
use Rattle.pl_calc.specs.Answer.{Answer}
use Rattle.pl_calling.specs.Called.{CallsIt, IsCallee}
use Rattle.pl_calling.specs.declared.callee.Found.{Found}
use Rattle.pl_catalog.specs.Objects.{routine_named, routines_in}
use Rattle.pl_catalog.specs.declared.object.Routine.{Routine}
use Rattle.pl_engine.proofs.Joins.{Lawful, acted, becomes, ended, on, quietly, start}
use Rattle.pl_engine.specs.Answers.{Done, Partway}
use Rattle.pl_engine.specs.Asks.{returned}
use Rattle.pl_engine.specs.Engines.{Kept, Quiet, kept, with_call, world}
use Rattle.pl_engine.specs.Holding.{holds_join, holds_none}
use Rattle.pl_engine.specs.Texts.{do_bodies}
use Rattle.pl_engine.specs.contracts.held.HeldPort.TheImpl.{ghosts}
use Rattle.pl_engine.specs.declared.engine.Engine.{Engine}
use Rattle.pl_engine.specs.declared.port.Port.{Ghosts}
use Rattle.pl_engine.specs.pl_world.Calls.{Callee, called, called_by_name, called_if, callee_of, can_be_called, entered, given, left, most_calls, popped, popped_by}
use Rattle.pl_engine.specs.pl_world.Conversions.{as_type, converted, settled}
use Rattle.pl_engine.specs.pl_world.Errors.{Spot, as_run_state, raised}
use Rattle.pl_engine.specs.pl_world.Running.{Runner, body, spot_of}
use Rattle.pl_engine.specs.pl_world.Statements.{run_within, runner_for}
use Rattle.pl_engine.specs.pl_world.World.{Frame, Ran, World, and_then, ends}
use Rattle.pl_engine.specs.pl_world.declared.outcome.Outcome.{Outcome}
use Rattle.pl_engine.specs.pl_world.declared.outcome.Outcome.TheVariants as outcome

-- ---- a call is entered, and gone

pub entered_is : (is_command : Bool) (found : Found) (c : Callee) (values : List Value) (w : World) → IsCallee is_command found c → with_call found.routine is_command found.declared values w ≡ entered c values w
unfolding entered
entered_is is_command found c values w is = rw (is.0, is.1, is.2) refl

popped_steps : (w : World) (fs : List Frame) → (popped_by fs w).steps ≡ w.steps
popped_steps w [] = refl
popped_steps w (f ∷ fs) = refl

popped_last : (w : World) (fs : List Frame) → (popped_by fs w).last ≡ w.last
popped_last w [] = refl
popped_last w (f ∷ fs) = refl

gone_steps : (w : World) → (popped w).steps ≡ w.steps
unfolding popped
gone_steps w = popped_steps w w.below

gone_last : (w : World) → (popped w).last ≡ w.last
unfolding popped
gone_last w = popped_last w w.below

pub left_is : (c : Callee) (o : Outcome) (w : World) → left c o w ≡ and_then (given c.result o (spot_of (body c.body)) w) (λ o w. ends o (popped w))
unfolding left
left_is c o w = refl

-- what a call leaves as it was
pub called_keeps : (e0 e1 e2 e3 : Engine) → kept e1 ≡ record (kept e0) { below = (world e0).frame ∷ (world e0).below } → kept e2 ≡ kept e1 → kept e3 ≡ record (kept e2) { below = drop 1 (world e2).below } → kept e3 ≡ kept e0
called_keeps e0 e1 e2 e3 entering keeps leaving = leaving ∙ ap (λ (k : Kept). record k { below = drop 1 k.below }) (keeps ∙ entering)

-- the whole of a call, in its caller's world
abbrev pub whole : ℕ → Callee → List Value → World → Ran Outcome
whole room c values w = and_then (run_within do_bodies room (body c.body) (entered c values w)) (left c)

module _ {P : Type 0} {port : Ghosts P} (law : Lawful port) (room : ℕ) (is_command : Bool) (found : Found) (c : Callee) (is : IsCallee is_command found c) (values : List Value) {e0 e1 e2 e3 : Engine} {p q : P} (fits : port.fits (world e0).last p) where
  -- the body ran, and the call is gone
  pub called_done : (end o : Outcome) → world e1 ≡ with_call found.routine is_command found.declared values (world e0) → Done port (run_within do_bodies room (body found.body) (world e1)) end e1 e2 p q → Quiet (given found.result end (spot_of (body found.body)) (world e2)) o e2 e2
      → world e3 ≡ popped (world e2) → Done port (whole room c values (world e0)) o e0 e3 p q
  called_done end o entering d quiet leaving =
      let inside : world e1 ≡ entered c values (world e0) = entering ∙ entered_is is_command found c values (world e0) is in
      let way0 : Partway port (whole room c values (world e0)) (whole room c values (world e0)) e0 e0 p p = start law (whole room c values (world e0)) e0 p fits in
      let way1 : Partway port (whole room c values (world e0)) (whole room c values (world e0)) e0 e1 p p = quietly law way0 (ap (λ (w : World). w.steps) entering) (ap (λ (w : World). w.last) entering) in
      let way2 : Partway port (whole room c values (world e0)) (and_then (run_within do_bodies room (body c.body) (world e1)) (left c)) e0 e1 p p =
      becomes law way1 (ap (λ (w : World). and_then (run_within do_bodies room (body c.body) w) (left c)) (sym inside)) in
      let d' : Done port (run_within do_bodies room (body c.body) (world e1)) end e1 e2 p q = subst (λ (b : Body). Done port (run_within do_bodies room (body b) (world e1)) end e1 e2 p q) is.4 d in
      let way3 : Partway port (whole room c values (world e0)) (left c end (world e2)) e0 e2 p q = on law (left c) way2 d' in
      let way4 : Partway port (whole room c values (world e0)) (and_then (given c.result end (spot_of (body c.body)) (world e2)) (λ o w. ends o (popped w))) e0 e2 p q = becomes law way3 (left_is c end (world e2)) in
      let quiet' : Quiet (given c.result end (spot_of (body c.body)) (world e2)) o e2 e2 =
      subst (λ (b : Body). Quiet (given c.result end (spot_of (body b)) (world e2)) o e2 e2) is.4 (subst (λ (t : Option Ty). Quiet (given t end (spot_of (body found.body)) (world e2)) o e2 e2) is.3 quiet) in
      let d2 : Done port (given c.result end (spot_of (body c.body)) (world e2)) o e2 e2 q q = acted law (start law (given c.result end (spot_of (body c.body)) (world e2)) e2 q way4.told.fits) quiet' in
      let way5 : Partway port (whole room c values (world e0)) (ends o (popped (world e2))) e0 e2 p q = on law (λ o w. ends o (popped w)) way4 d2 in
      let way6 : Partway port (whole room c values (world e0)) (ends o (popped (world e2))) e0 e3 p q = quietly law way5 (ap (λ (w : World). w.steps) leaving ∙ gone_steps (world e2)) (ap (λ (w : World). w.last) leaving ∙ gone_last (world e2)) in
      ended law way6 (sym leaving)

-- ---- by name

pub each_ok : {A E : Type 0} {P Q : A → Type 0} (r : Result A E) → ((a : A) → P a → Q a) → IfOk r P → IfOk r Q
each_ok (Ok a) f is = f a is
each_ok (Err e) f is = tt

pub called_is : (r : Runner) (c : Callee) (values : List Value) (at : Spot) (w : World) → nat_lt (length w.below) most_calls ≡ true → called r c values at w ≡ and_then (r.run (body c.body) (entered c values w)) (left c)
unfolding called
called_is r c values at w is = ap (λ (b : Bool). if b then and_then (r.run (body c.body) (entered c values w)) (left c) else raised STATEMENT_TOO_COMPLEX at w) is

pub too_deep : (r : Runner) (c : Callee) (values : List Value) (at : Spot) (w : World) → nat_lt (length w.below) most_calls ≡ false → called r c values at w ≡ raised STATEMENT_TOO_COMPLEX at w
unfolding called
too_deep r c values at w is = ap (λ (b : Bool). if b then and_then (r.run (body c.body) (entered c values w)) (left c) else raised STATEMENT_TOO_COMPLEX at w) is

module _ {P : Type 0} {port : Ghosts P} (law : Lawful port) (room : ℕ) (is_command : Bool) (name : List ℕ) (values : List Value) (at : Spot) (e : Engine) {p : P} (fits : port.fits (world e).last p) where
  abbrev by_name : Ran Outcome
  by_name = called_by_name (runner_for do_bodies room) at is_command name values (world e)

  raised_so : (state : State) {o : Outcome} → by_name ≡ raised state at (world e) → Quiet (raised state at (world e)) o e e → Done port by_name o e e p p
  raised_so state is quiet = acted law (becomes law (start law by_name e p fits) is) quiet

  -- there is none
  pub none_called : {o : Outcome} → CallsIt is_command None name values (world e) → Quiet (raised INTERNAL_ERROR at (world e)) o e e → Done port by_name o e e p p
  none_called calls quiet = raised_so INTERNAL_ERROR (calls (runner_for do_bodies room) at) quiet

  pub none_deeper : (found : Found) {o : Outcome} → CallsIt is_command (Some found) name values (world e) → nat_lt (length (world e).below) most_calls ≡ false → Quiet (raised STATEMENT_TOO_COMPLEX at (world e)) o e e → Done port by_name o e e p p
  none_deeper found calls deep quiet = raised_so STATEMENT_TOO_COMPLEX (calls.2 (runner_for do_bodies room) at ∙ too_deep (runner_for do_bodies room) calls.0 values at (world e) deep) quiet

  pub one_called : (found : Found) {o : Outcome} {new : Engine} {q : P} (calls : CallsIt is_command (Some found) name values (world e)) → nat_lt (length (world e).below) most_calls ≡ true
      → Done port (and_then (run_within do_bodies room (body calls.0.body) (entered calls.0 values (world e))) (left calls.0)) o e new p q → Done port by_name o e new p q
  one_called found {o} {new} {q} calls deep d =
      subst (λ (ran : Ran Outcome). Done port ran o e new p q) (sym (calls.2 (runner_for do_bodies room) at ∙ called_is (runner_for do_bodies room) calls.0 values at (world e) deep)) d

-- ---- what is held

pub held_law : Lawful ghosts
held_law = record { none = λ db p. holds_none p; joins = λ db es fs p q r one two. holds_join es fs p q r one two; rises = λ db es p q took. (omega arith, omega arith) }

-- ---- what a body gives

pub given_exit : (ty : Option Ty) (to : Option (List ℕ)) (at : Spot) (w : World) → given ty (outcome.Exit to) at w ≡ given ty outcome.Next at w
given_exit None to at w = refl
given_exit (Some t) to at w = refl

pub given_continue : (ty : Option Ty) (to : Option (List ℕ)) (at : Spot) (w : World) → given ty (outcome.Continue to) at w ≡ given ty outcome.Next at w
given_continue None to at w = refl
given_continue (Some t) to at w = refl

pub typed : (to : Ty) (v got : Value) (at : Spot) (e : Engine) → converted to v ≡ Ok got → Quiet (as_type to v at (world e) returned) (outcome.Return got) e e
unfolding as_type
typed to v got at e is = subst (λ (a : Answer). Quiet (settled a at (world e) returned) (outcome.Return got) e e) (sym is) (refl, refl, refl, refl, refl, refl)

pub untyped : (to : Ty) (v : Value) (state : State) (at : Spot) (e : Engine) (o : Outcome) → converted to v ≡ Err state → Quiet (raised (as_run_state state) at (world e)) o e e → Quiet (as_type to v at (world e) returned) o e e
unfolding as_type
untyped to v state at e o is quiet = subst (λ (a : Answer). Quiet (settled a at (world e) returned) o e e) (sym is) quiet

-- ---- the routine of a name

pub found_named : (is_command : Bool) (routine : Routine) (name : List ℕ) (values : List Value) (w : World) → routine_named name (routines_in w.database.objects) ≡ Some routine → can_be_called is_command values routine ≡ true → (r : Runner) (at : Spot)
    → called_by_name r at is_command name values w ≡ called r (callee_of is_command routine) values at w
found_named is_command routine name values w is can r at =
    ap (λ (o : Option Routine). called_if o is_command r values at w) is
    ∙ ap (λ (b : Bool). if b then called r (callee_of is_command routine) values at w else raised INTERNAL_ERROR at w) can
