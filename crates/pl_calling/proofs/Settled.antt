-- Proofs that other crates' proofs may cite; no definition. What was read is used, or its error is the end.
use Rattle.std.proofs.Common.{◌≡◌, ◌++◌, List, [], ◌∷◌, Option, Some, None, Result, Ok, Err, append-nil, ap, refl, sym}
use Rattle.pl_base.specs.declared.fail.Fail.{Fail}
use Rattle.pl_base.specs.declared.state.State.{State}
use Rattle.pl_calling.specs.Ends.{settles}
use Rattle.pl_engine.proofs.Joins.{Lawful, becomes, ended, on, start, stopped, within}
use Rattle.pl_engine.specs.Answers.{Done, Partway, Stopped}
use Rattle.pl_engine.specs.Engines.{world}
use Rattle.pl_engine.specs.declared.engine.Engine.{Engine}
use Rattle.pl_engine.specs.declared.port.Port.{Ghosts}
use Rattle.pl_engine.specs.declared.stop.Stop.{Stop}
use Rattle.pl_value.specs.Reading.{Reading, got, fails}
use Rattle.pl_engine.specs.pl_world.Calls.{Within}
use Rattle.pl_engine.specs.pl_world.Errors.{Spot, as_run_state, failure}
use Rattle.pl_engine.specs.pl_world.Expressions.{failing, read, reads}
use Rattle.pl_engine.specs.pl_world.World.{Event, Raised, Ran, World, and_then, behind, ends, made}
use Rattle.pl_engine.specs.pl_world.declared.outcome.Outcome.{Outcome}
use Rattle.pl_engine.specs.pl_world.declared.outcome.Outcome.TheVariants as outcome

-- a thing goes on, and an error ends the statement
abbrev pub goes_on : {A : Type 0} → (A → World → Ran Outcome) → Result A Fail → World → Ran Outcome
goes_on k (Ok x) w = k x w
goes_on k (Err f) w = ends (outcome.Fail f) w

failed_so : {A : Type 0} (k : A → World → Ran Outcome) (o : Option Fail) (state : State) (at : Spot) (es : List Event) (w : World)
    → behind es (failing outcome.Fail o state at w) ≡ and_then (behind es (failing Err o state at w)) (goes_on k)
failed_so k (Some f) state at es w = ap (λ (es : List Event). made w (outcome.Fail f) es) (sym (append-nil (es ++ [])))
failed_so k None state at es w =
    let f : Fail = failure (as_run_state state) at w in
    ap (λ (es : List Event). made w (outcome.Fail f) es) (sym (append-nil (es ++ Raised f ∷ [])))

module _ {A : Type 0} (reading : Reading Within A) (at : Spot) (k : A → World → Ran Outcome) where
  abbrev pub Used : Reading Within A → Type 0
  Used r = read r at k ≡ and_then (settles r at) (goes_on k)

  read_is : (r : Reading Within A) → Used r
  unfolding reads
  read_is (got x s) = ap (λ (es : List Event). behind es (k x s.world)) (sym (append-nil s.told))
  read_is (fails state s) = failed_so k s.failure state at s.told s.world

  module _ {P : Type 0} {port : Ghosts P} (law : Lawful port) {old : Engine} {p : P} (fits : port.fits (world old).last p) where
    here : Partway port (read reading at k) (and_then (settles reading at) (goes_on k)) old old p p
    here = becomes law (start law (read reading at k) old p fits) (read_is reading)

    -- what follows goes on
    pub read_on : (x : A) {new : Engine} {q : P} → Done port (settles reading at) (Ok x) old new p q → Partway port (read reading at k) (k x (world new)) old new p q
    read_on x d = on law (goes_on k) here d

    -- its error is the end
    pub read_off : (f : Fail) {new : Engine} {q : P} → Done port (settles reading at) (Err f) old new p q → Done port (read reading at k) (outcome.Fail f) old new p q
    read_off f d = ended law (on law (goes_on k) here d) refl

    -- reading stopped
    pub read_stops : {stop : Stop} {q : P} → Stopped port (settles reading at) stop old p q → Stopped port (read reading at k) stop old p q
    read_stops s = stopped law here (within law (goes_on k) s)
