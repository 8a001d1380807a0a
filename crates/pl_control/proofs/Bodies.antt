-- Bodies that commands run, each in a call of its own.
use Rattle.std.proofs.Common.{◌≡◌, ◌∙◌, ℕ, true, List, [], Option, Ok, Err, ap, refl, sym}
use Rattle.pl_base.specs.declared.state.State.{State}
use Rattle.pl_base.specs.declared.value.Value.{Value}
use Rattle.pl_bodies.specs.declared.statement.Body.{Body}
use Rattle.pl_asking.proofs.of_pl_calling.Entered.{entered_is, whole}
use Rattle.pl_asking.specs.pl_calling.Called.{IsCallee}
use Rattle.pl_asking.specs.pl_calling.declared.callee.Found.{Found}
use Rattle.pl_engine.proofs.Joins.{Lawful, becomes, before, ended, on, quietly, start, stopped, within}
use Rattle.pl_engine.specs.Answers.{Done, Partway, Stopped}
use Rattle.pl_engine.specs.Engines.{with_call, world}
use Rattle.pl_engine.specs.Texts.{do_bodies}
use Rattle.pl_engine.specs.declared.engine.Engine.{Engine}
use Rattle.pl_engine.specs.declared.port.Port.{Ghosts}
use Rattle.pl_engine.specs.declared.stop.Stop.{Stop}
use Rattle.pl_engine.specs.declared.stop.Stop.TheVariants.{Memory}
use Rattle.pl_names.specs.Names.{Name}
use Rattle.pl_typing.specs.Resolved.{Resolved}
use Rattle.pl_engine.specs.pl_world.Calls.{Callee, called, left, nameless}
use Rattle.pl_engine.specs.pl_world.Errors.{Spot, raises}
use Rattle.pl_engine.specs.pl_world.Running.{Runner, body}
use Rattle.pl_engine.specs.pl_world.Statements.{run_within}
use Rattle.pl_engine.specs.pl_world.Transactions.{after_call, body_read, does, does_body, unread}
use Rattle.pl_engine.specs.pl_world.World.{Ran, World, and_then, ends}
use Rattle.pl_engine.specs.pl_world.declared.outcome.Outcome.{Outcome}
use Rattle.pl_engine.specs.pl_world.declared.outcome.Outcome.TheVariants as outcome

-- ---- a call that was entered, and doesn't come to its end

module _ {P : Type 0} {port : Ghosts P} (law : Lawful port) (room : ℕ) (found : Found) (c : Callee) (is : IsCallee true found c) (values : List Value) {e0 e1 : Engine} {p : P} (fits : port.fits (world e0).last p) (entering : world e1 ≡ with_call found.routine true found.declared values (world e0)) where
  inside : Partway port (whole room c values (world e0)) (and_then (run_within do_bodies room (body found.body) (world e1)) (left c)) e0 e1 p p
  inside =
      becomes law (quietly law (start law (whole room c values (world e0)) e0 p fits) (ap (λ (w : World). w.steps) entering) (ap (λ (w : World). w.last) entering))
      (ap (λ (w : World). and_then (run_within do_bodies room (body c.body) w) (left c)) (sym (entering ∙ entered_is true found c values (world e0) is))
      ∙ ap (λ (b : Body). and_then (run_within do_bodies room (body b) (world e1)) (left c)) (sym is.4))

  -- its body stopped
  pub body_stopped : (stop : Stop) {q : P} → Stopped port (run_within do_bodies room (body found.body) (world e1)) stop e1 p q → Stopped port (whole room c values (world e0)) stop e0 p q
  body_stopped stop s = stopped law inside (within law (left c) s)

  -- its body ended, and there was no memory for what it gives
  pub body_lost : {e2 : Engine} {q : P} (end : Outcome) (stop : Stop) → stop ≡ Memory → Done port (run_within do_bodies room (body found.body) (world e1)) end e1 e2 p q → Stopped port (whole room c values (world e0)) stop e0 p q
  body_lost end stop none d = stopped law (on law (left c) inside d) (before law none)

-- ---- what a command leaves whose call has ended

pub after_other : (o : Outcome) → ((v : Value) → o ≡ outcome.Return v → ⊥) → (w : World) → after_call o w ≡ ends o w
after_other outcome.Next other w = refl
after_other (outcome.Exit to) other w = refl
after_other (outcome.Continue to) other w = refl
after_other (outcome.Return v) other w = absurd (other v refl)
after_other (outcome.Fail f) other w = refl

module _ {P : Type 0} {port : Ghosts P} (law : Lawful port) {ran : Ran Outcome} {old : Engine} {p q : P} where
  pub after_done : {end o : Outcome} {new : Engine} → port.fits (world old).last p → ((w : World) → after_call end w ≡ ends o w) → Done port ran end old new p q → Done port (and_then ran after_call) o old new p q
  after_done {end} {o} {new} fits is d = ended law (becomes law (on law after_call (start law (and_then ran after_call) old p fits) d) (is (world new))) refl

  pub after_stopped : {stop : Stop} → Stopped port ran stop old p q → Stopped port (and_then ran after_call) stop old p q
  after_stopped s = within law after_call s

-- ---- DO

pub does_read : (r : Runner) (at : Spot) (language : Option Name) (text : List ℕ) (w : World) (b : Body) → body_read r.bodies language text ≡ Ok b → does r at language text w ≡ and_then (called r (nameless b) [] at w) after_call
unfolding does
does_read r at language text w b is = ap (λ (x : Resolved Body). does_body r at x w) is

pub does_failed : (r : Runner) (at : Spot) (language : Option Name) (text : List ℕ) (w : World) (state : State) → body_read r.bodies language text ≡ Err state → does r at language text w ≡ raises outcome.Fail (unread state) w
unfolding does
does_failed r at language text w state is = ap (λ (x : Resolved Body). does_body r at x w) is
