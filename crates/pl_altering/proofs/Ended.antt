-- Changes that end, and what is done with their rows.
use Rattle.std.proofs.Common.{◌≡◌, ℕ, ◌∷◌, ◌++◌, ◌∙◌, List, [], Option, Some, None, Result, Ok, Err, append-nil, ap, drop, length, refl, subst, sym}
use Rattle.pl_altering.specs.Ends.{changes, done_from}
use Rattle.pl_base.specs.declared.fail.Fail.{Fail}
use Rattle.pl_base.specs.declared.state.State.{State}
use Rattle.pl_bodies.specs.declared.simple.IntoClause.{IntoClause}
use Rattle.pl_querying.proofs.of_pl_calling.Settled.{read_off, read_on, read_stops}
use Rattle.pl_querying.specs.pl_calling.Ends.{settles}
use Rattle.pl_querying.proofs.of_pl_engine.Joins.{Lawful, acted, becomes, ended, on, quietly, start, stopped, within}
use Rattle.pl_querying.specs.pl_engine.Answers.{Done, Partway, Stopped}
use Rattle.pl_querying.specs.pl_engine.Changing.{without_change}
use Rattle.pl_querying.specs.pl_engine.Engines.{Kept, Quiet, kept, world}
use Rattle.pl_querying.specs.pl_engine.declared.engine.Engine.{Engine}
use Rattle.pl_querying.specs.pl_engine.declared.port.Port.{Ghosts}
use Rattle.pl_querying.specs.pl_engine.declared.stop.Stop.{Stop}
use Rattle.pl_names.specs.Names.{Name}
use Rattle.pl_targets.specs.declared.change.RChange.{RChange}
use Rattle.pl_value.specs.Frames.{Row}
use Rattle.pl_value.specs.Reading.{Reading, got, fails}
use Rattle.pl_world.specs.Calls.{Within}
use Rattle.pl_world.specs.Changes.{changed, while_changing}
use Rattle.pl_world.specs.Commands.{Altering, altered, finished, returned}
use Rattle.pl_world.specs.Errors.{Spot, as_run_state, failure}
use Rattle.pl_world.specs.Expressions.{failing, read, reads}
use Rattle.pl_world.specs.Running.{Runner}
use Rattle.pl_world.specs.Variables.{counted}
use Rattle.pl_world.specs.World.{Event, Raised, Ran, World, and_then, behind, ends, made}
use Rattle.pl_world.specs.declared.outcome.Outcome.{Outcome}
use Rattle.pl_world.specs.declared.outcome.Outcome.TheVariants as outcome

-- ---- the newest change no longer runs

abbrev off : {A : Type 0} → Result A Fail → World → Ran (Result A Fail)
off o w = ends o (without_change w)

off_failed : {A : Type 0} (o : Option Fail) (state : State) (at : Spot) (es : List Event) (w : World) → behind {O = Result A Fail} es (failing Err o state at (without_change w)) ≡ and_then (behind es (failing Err o state at w)) off
off_failed {A} (Some f) state at es w = ap (λ (es : List Event). let ran : Ran (Result A Fail) = made (without_change w) (Err f) es in ran) (sym (append-nil (es ++ [])))
off_failed {A} None state at es w =
    let f : Fail = failure (as_run_state state) at w in
    ap (λ (es : List Event). let ran : Ran (Result A Fail) = made (without_change w) (Err f) es in ran) (sym (append-nil (es ++ Raised f ∷ [])))

finished_is : {A : Type 0} (r : Reading Within A) (at : Spot) → settles (finished r) at ≡ and_then (settles r at) off
unfolding reads
finished_is {A} (got a x) at = ap (λ (es : List Event). let ran : Ran (Result A Fail) = made (without_change x.world) (Ok a) es in ran) (sym (append-nil (x.told ++ [])))
finished_is (fails state x) at = off_failed x.failure state at x.told x.world

changed_is : (r : Runner) (at : Spot) (change : RChange) (w : World) → changed r at change w ≡ done_from r at change (while_changing change.table w)
unfolding changed
changed_is r at change w = refl

module _ {P : Type 0} {port : Ghosts P} (law : Lawful port) (r : Runner) (at : Spot) (change : RChange) {e0 e1 : Engine} {p : P} (fits : port.fits (world e0).last p) (begins : world e1 ≡ while_changing change.table (world e0)) where
  begun_so : Partway port (changes r at change (world e0)) (and_then (settles (done_from r at change (world e1)) at) off) e0 e1 p p
  begun_so =
      becomes law (quietly law (start law (changes r at change (world e0)) e0 p fits) (ap (λ (w : World). w.steps) begins) (ap (λ (w : World). w.last) begins))
      (ap (λ (q : Reading Within (List Row)). settles (finished q) at) (changed_is r at change (world e0))
      ∙ (ap (λ (w : World). settles (finished (done_from r at change w)) at) (sym begins)
      ∙ finished_is (done_from r at change (world e1)) at))

  pub change_done : (o : Result (List Row) Fail) {e2 e3 : Engine} {q : P} → Done port (settles (done_from r at change (world e1)) at) o e1 e2 p q → world e3 ≡ without_change (world e2) → Done port (changes r at change (world e0)) o e0 e3 p q
  change_done o {e2} {e3} {q} d off_now =
      ended law (quietly law (on law off begun_so d) (ap (λ (w : World). w.steps) off_now) (ap (λ (w : World). w.last) off_now)) (sym off_now)

  pub change_stopped : {stop : Stop} {q : P} → Stopped port (settles (done_from r at change (world e1)) at) stop e1 p q → Stopped port (changes r at change (world e0)) stop e0 p q
  change_stopped s = stopped law begun_so (within law off s)

-- what a change leaves as it was
pub change_keeps : (table : Name) (e0 e1 e2 e3 : Engine) → kept e1 ≡ record (kept e0) { changing = table ∷ (kept e0).changing } → kept e2 ≡ kept e1 → kept e3 ≡ record (kept e2) { changing = drop 1 (kept e2).changing } → kept e3 ≡ kept e0
change_keeps table e0 e1 e2 e3 begins keeps ends = ends ∙ ap (λ (k : Kept). record k { changing = drop 1 k.changing }) (keeps ∙ begins)

-- ---- its rows

module _ (clause : Option IntoClause) (a : Altering) (at : Spot) where
  abbrev pub placing : List Row → World → Ran Outcome
  placing rows w = returned clause a rows at (counted (length rows) w)

  abbrev reading : Runner → World → Reading Within (List Row)
  reading r w = finished (changed r at a.change w)

  altered_is : (r : Runner) (w : World) → read (finished (changed r at a.change w)) at placing ≡ altered r at clause a w
  unfolding altered
  altered_is r w = refl

  module _ {P : Type 0} {port : Ghosts P} (law : Lawful port) (r : Runner) {old : Engine} {p : P} (fits : port.fits (world old).last p) where
    pub placed : (rows : List Row) (o : Outcome) {mid new : Engine} {q : P} → Done port (changes r at a.change (world old)) (Ok rows) old mid p q → Quiet (placing rows (world mid)) o mid new → Done port (altered r at clause a (world old)) o old new p q
    placed rows o {mid} {new} {q} d quiet = subst (λ (ran : Ran Outcome). Done port ran o old new p q) (altered_is r (world old)) (acted law (read_on (reading r (world old)) at placing law fits rows d) quiet)

    pub not_placed : (rows : List Row) {mid : Engine} {q : P} → Done port (changes r at a.change (world old)) (Ok rows) old mid p q → Partway port (altered r at clause a (world old)) (placing rows (world mid)) old mid p q
    not_placed rows {mid} {q} d = subst (λ (ran : Ran Outcome). Partway port ran (placing rows (world mid)) old mid p q) (altered_is r (world old)) (read_on (reading r (world old)) at placing law fits rows d)

    pub failed : (f : Fail) {mid : Engine} {q : P} → Done port (changes r at a.change (world old)) (Err f) old mid p q → Done port (altered r at clause a (world old)) (outcome.Fail f) old mid p q
    failed f {mid} {q} d = subst (λ (ran : Ran Outcome). Done port ran (outcome.Fail f) old mid p q) (altered_is r (world old)) (read_off (reading r (world old)) at placing law fits f d)

    pub stops : {stop : Stop} {q : P} → Stopped port (changes r at a.change (world old)) stop old p q → Stopped port (altered r at clause a (world old)) stop old p q
    stops {stop} {q} s = subst (λ (ran : Ran Outcome). Stopped port ran stop old p q) (altered_is r (world old)) (read_stops (reading r (world old)) at placing law fits s)

-- an act in the world that is counted, of an engine that has counted
pub after_counting : (n : ℕ) (k : World → Ran Outcome) (o : Outcome) (old mid new : Engine) → world mid ≡ counted n (world old) → Quiet (k (world mid)) o mid new → Quiet (k (counted n (world old))) o old new
unfolding counted
after_counting n k o old mid new is quiet =
    let steps : mid.steps ≡ old.steps = ap (λ (w : World). w.steps) is in
    let last : (world mid).last ≡ (world old).last = ap (λ (w : World). w.last) is in
    moved (k (world mid)) (k (counted n (world old))) (ap k is) steps last quiet
  where
    moved : (r s : Ran Outcome) → r ≡ s → mid.steps ≡ old.steps → (world mid).last ≡ (world old).last → Quiet r o mid new → Quiet s o old new
    moved (made w x es) s same steps last (a, b, c, d, e, f) = subst (λ (ran : Ran Outcome). Quiet ran o old new) same (a, b, c, d, e ∙ steps, f ∙ last)
