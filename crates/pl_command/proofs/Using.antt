-- What a command has read is used, or its error is what it answers.
use Rattle.std.proofs.Common.{◌≡◌, ◌++◌, List, [], ◌∷◌, Option, Some, None, Result, Ok, Err, append-nil, ap, refl, sym}
use Rattle.pl_base.specs.declared.fail.Fail.{Fail}
use Rattle.pl_base.specs.declared.state.State.{State}
use Rattle.pl_control.specs.pl_calling.Ends.{settles}
use Rattle.pl_control.proofs.of_pl_engine.Joins.{Lawful, becomes, ended, on, start, stopped, within}
use Rattle.pl_control.specs.pl_engine.Answers.{Done, Partway, Stopped}
use Rattle.pl_control.specs.pl_engine.Engines.{world}
use Rattle.pl_control.specs.pl_engine.declared.engine.Engine.{Engine}
use Rattle.pl_control.specs.pl_engine.declared.port.Port.{Ghosts}
use Rattle.pl_control.specs.pl_engine.declared.stop.Stop.{Stop}
use Rattle.pl_value.specs.Reading.{Reading, got, fails}
use Rattle.pl_world.specs.Calls.{Within}
use Rattle.pl_world.specs.Errors.{Spot, as_run_state, failure}
use Rattle.pl_world.specs.Expressions.{failing, reads}
use Rattle.pl_world.specs.Sessions.{failed}
use Rattle.pl_world.specs.World.{Event, Raised, Ran, World, and_then, behind, ends, made}
use Rattle.pl_world.specs.declared.session.Reply.{Reply}

-- a thing goes on, and an error is answered
abbrev pub used : {A : Type 0} → (A → World → Ran Reply) → Result A Fail → World → Ran Reply
used k (Ok x) w = k x w
used k (Err f) w = ends (failed f) w

failed_so : {A : Type 0} (k : A → World → Ran Reply) (o : Option Fail) (state : State) (at : Spot) (es : List Event) (w : World)
    → behind es (failing failed o state at w) ≡ and_then (behind es (failing Err o state at w)) (used k)
failed_so k (Some f) state at es w = ap (λ (es : List Event). made w (failed f) es) (sym (append-nil (es ++ [])))
failed_so k None state at es w =
    let f : Fail = failure (as_run_state state) at w in
    ap (λ (es : List Event). made w (failed f) es) (sym (append-nil (es ++ Raised f ∷ [])))

module _ {A : Type 0} (reading : Reading Within A) (at : Spot) (k : A → World → Ran Reply) where
  reads_is : (r : Reading Within A) → reads failed r at k ≡ and_then (settles r at) (used k)
  unfolding reads
  reads_is (got x s) = ap (λ (es : List Event). behind es (k x s.world)) (sym (append-nil s.told))
  reads_is (fails state s) = failed_so k s.failure state at s.told s.world

  module _ {P : Type 0} {port : Ghosts P} (law : Lawful port) {old : Engine} {p : P} (fits : port.fits (world old).last p) where
    here : Partway port (reads failed reading at k) (and_then (settles reading at) (used k)) old old p p
    here = becomes law (start law (reads failed reading at k) old p fits) (reads_is reading)

    -- what follows goes on
    pub reads_on : (x : A) {new : Engine} {q : P} → Done port (settles reading at) (Ok x) old new p q → Partway port (reads failed reading at k) (k x (world new)) old new p q
    reads_on x d = on law (used k) here d

    -- its error is the answer
    pub reads_off : (f : Fail) {new : Engine} {q : P} → Done port (settles reading at) (Err f) old new p q → Done port (reads failed reading at k) (failed f) old new p q
    reads_off f d = ended law (on law (used k) here d) refl

    -- reading stopped
    pub reads_stop : {stop : Stop} {q : P} → Stopped port (settles reading at) stop old p q → Stopped port (reads failed reading at k) stop old p q
    reads_stop s = stopped law here (within law (used k) s)
