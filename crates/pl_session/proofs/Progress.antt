-- The pieces of a script so far.
use Rattle.std.proofs.Common.{◌≡◌, ◌∙◌, ◌&&◌, ◌||◌, inl, inr, ⊎_elim, ◌++◌, ℕ, Bool, true, false, List, [], ◌∷◌, Result, Ok, append_assoc, ap, refl, subst, sym}
use Rattle.std.proofs.lemmas.List.{append-nil}
use Rattle.pl_disk.specs.Disk.{View}
use Rattle.pl_disk.specs.Lent.{no_run}
use Rattle.pl_port.specs.pl_engine.declared.stop.Stop.{Stop}
use Rattle.pl_port.specs.pl_engine.declared.stop.Stop.TheVariants.{Disk, Say, Memory}
use Rattle.pl_keeper.specs.Batches.{Damage}
use Rattle.pl_lex.specs.Characters.{Text}
use Rattle.pl_exec.proofs.of_pl_world.Lent.{text-append, last_commit-append, is_failed-append, both_no, readings_some}
use Rattle.pl_exec.specs.pl_world.Meaning.{Readings}
use Rattle.pl_exec.specs.pl_world.Trace.{Event, is_failed, text, last_commit}
use Rattle.pl_port.specs.PortLaws.{along_on, along_more}
use Rattle.pl_reading.specs.Computed.{script_readings}
use Rattle.pl_reading.specs.declared.reading.Reading.{Reading}
use Rattle.pl_session.proofs.Begins.{rises_since}
use Rattle.pl_session.proofs.Ends.{none_done}
use Rattle.pl_session.proofs.Scripts.{all_left}
use Rattle.pl_session.proofs.Traces.{behind-append, ended-append, ended-last, trace-append, trace-last, trace-one}
use Rattle.pl_session.specs.Endings.{RunsAlong, Done, GoesOn, StopsBy}
use Rattle.pl_session.specs.Scripts.{Left}
use Rattle.pl_session.specs.State.{database_in, session_in, IsReady}
use Rattle.pl_session.specs.Steps.{IsPart, KeepCause, PieceCause, StepCause}
use Rattle.pl_session.specs.Traces.{AreFront, LeadsTo, after, behind, ended_behind, events_in, told_before, told_next, trace}
use Rattle.pl_session.specs.declared.state.SessionState.{SessionState}
use Rattle.pl_undo.specs.Database.{Database}
use Rattle.pl_exec.specs.pl_world.Scripts.{script as script_events}
use Rattle.pl_exec.specs.pl_world.Sessions.{Session}

-- Between two pieces: the first ones are done, from one session to another, and no error of theirs ends the script.
pub record Progress (a now : View) (steps : ℕ) (stops : Bool) (script : Text) (at : ℕ) (s current : Session) : Type 0 where
  pub first : List Reading
  pub rest : List Reading
  pub all : script_readings script ≡ first ++ rest
  pub left : Left script at rest
  pub goes_on : (stops && is_failed (trace steps stops first s)) ≡ false
  pub moments : RunsAlong a now (trace steps stops first s) s.world.last
  pub printed : a.told → now.printed ≡ a.printed ++ text (trace steps stops first s)
  pub reached : current ≡ behind steps first s
  pub database : current.world.last ≡ last_commit (trace steps stops first s) s.world.last

pub no_piece : (a : View) (steps : ℕ) (stops : Bool) (script : Text) (s : Session) → Progress a a steps stops script 0 s s
unfolding script_events
no_piece a steps stops script s = record {
  first = [];
  rest = script_readings script;
  all = refl;
  left = all_left script;
  goes_on = none stops;
  moments = no_run a _;
  printed = λ told. sym (append-nil a.printed);
  reached = refl;
  database = refl;
}
  where
    none : (s : Bool) → (s && false) ≡ false
    none true = refl
    none false = refl

as_ok : (a b : Database) → a ≡ b → (let r : Result Database Damage = Ok a in r) ≡ Ok b
as_ok a b is = ap (λ (d : Database). let r : Result Database Damage = Ok d in r) is

module _ (a b : View) (steps : ℕ) (stops : Bool) (script : Text) (at : ℕ) (s current : Session) (was : Progress a b steps stops script at s current) where
  abbrev db : Database
  db = s.world.last

  abbrev whole : List Event
  whole = trace steps stops (script_readings script) s

  abbrev done : List Event
  done = trace steps stops was.first s

  split : trace steps stops (script_readings script) s ≡ trace steps stops was.first s ++ trace steps stops was.rest current
  split = ap (λ (rs : List Reading). trace steps stops rs s) was.all ∙ trace-append steps stops was.first was.rest s was.goes_on
      ∙ ap (λ (t : Session). done ++ trace steps stops was.rest t) (sym was.reached)

  told_then : a.told → b.told
  told_then told = was.moments.continues.told told

  -- the session stopped before a piece was read
  pub moments_so_far : RunsAlong a b (trace steps stops (script_readings script) s) s.world.last
  moments_so_far = subst (λ (t : List Event). RunsAlong a b t db) (sym split) (along_more a b done (trace steps stops was.rest current) db was.moments)

  -- ---- more events behind them

  printed_on : (d : View) (xs : List Event) → (b.told → d.printed ≡ b.printed ++ text xs) → a.told → d.printed ≡ a.printed ++ text (done ++ xs)
  printed_on d xs said told = said (told_then told) ∙ ap (λ (l : List ℕ). l ++ text xs) (was.printed told) ∙ append_assoc a.printed (text done) (text xs)
      ∙ ap (λ (l : List ℕ). a.printed ++ l) (sym (text-append done xs))

  last_on : (xs : List Event) → last_commit xs current.world.last ≡ last_commit (done ++ xs) db
  last_on xs = ap (λ (e : Database). last_commit xs e) was.database ∙ sym (last_commit-append done xs db)

  done_on : (d : View) (xs : List Event) → (b.told → Done b d xs current.world.last) → a.told → Done a d (done ++ xs) db
  done_on d xs all told = record {
    printed = printed_on d xs (λ t. (all t).printed) told;
    opens_to = λ c left. (all (told_then told)).opens_to c left ∙ as_ok (last_commit xs current.world.last) (last_commit (done ++ xs) db) (last_on xs);
  }

  -- some of what the next piece tells before its end
  front : (part : List Event) → IsPart part (told_next steps was.rest current) → AreFront script steps stops s (done ++ part)
  front part is = record {
    first = was.first;
    others = was.rest;
    read = subst (λ (rs : List Reading). Readings script rs) was.all (readings_some script);
    part = part;
    left = is.0;
    before = ap (λ (t : Session). told_next steps was.rest t) (sym was.reached) ∙ is.1;
    are = refl;
    goes_on = inr was.goes_on;
  }

  -- the session stopped between two pieces
  pub so_many : (state : SessionState) → IsReady b state → session_in state ≡ current → StopsBy a b script steps stops s Memory
  so_many state ready is = (
    done ++ [],
    front [] (told_next steps was.rest current, refl),
    done_on b [] (λ told. subst (λ (e : Database). Done b b [] e) (ap (λ (t : Session). t.world.last) is) (none_done b state ready told)),
  )

  -- ---- nothing is left

  module _ (none : was.rest ≡ []) where
    all_done : trace steps stops (script_readings script) s ≡ trace steps stops was.first s
    all_done = ap (λ (rs : List Reading). trace steps stops rs s) (was.all ∙ ap (λ (rs : List Reading). was.first ++ rs) none ∙ append-nil was.first)

    pub done_whole : (before state : SessionState) → session_in before ≡ s → session_in state ≡ current → IsReady b state → GoesOn a b before state (trace steps stops (script_readings script) s)
    done_whole before state is_before is_after ready = record {
      ready = ready;
      database = ap (λ (t : Session). t.world.last) is_after ∙ was.database ∙ ap (λ (t : List Event). last_commit t db) (sym all_done)
          ∙ ap (λ (t : Session). last_commit whole t.world.last) (sym is_before);
      printed = λ told. was.printed told ∙ ap (λ (t : List Event). a.printed ++ text t) (sym all_done);
    }

    pub no_error : (stops && is_failed (trace steps stops (script_readings script) s)) ≡ false
    no_error = ap (λ (t : List Event). stops && is_failed t) all_done ∙ was.goes_on

    pub leads_whole : LeadsTo script steps stops s current
    leads_whole = (
      script_readings script,
      readings_some script,
      was.reached ∙ sym (ended-append steps stops was.first [] s was.goes_on)
          ∙ ap (λ (rs : List Reading). ended_behind steps stops rs s) (sym (was.all ∙ ap (λ (rs : List Reading). was.first ++ rs) none)),
    )

  -- ---- a piece more

  module _ (d : View) (reading : Reading) (others : List Reading) (next : was.rest ≡ reading ∷ others) (run : RunsAlong b d (events_in steps reading current) current.world.last) where
    abbrev now : List Event
    now = events_in steps reading current

    abbrev first : List Reading
    first = was.first ++ reading ∷ []

    one_more : trace steps stops (was.first ++ reading ∷ []) s ≡ done ++ now
    one_more = trace-append steps stops was.first (reading ∷ []) s was.goes_on ∙ ap (λ (t : Session). done ++ trace steps stops (reading ∷ []) t) (sym was.reached)
        ∙ ap (λ (t : List Event). done ++ t) (trace-one steps stops reading current)

    all_more : script_readings script ≡ (was.first ++ reading ∷ []) ++ others
    all_more = was.all ∙ ap (λ (rs : List Reading). was.first ++ rs) next ∙ sym (append_assoc was.first (reading ∷ []) others)

    runs_more : RunsAlong a d (done ++ now) db
    runs_more = along_on a b d done now db was.printed was.moments (subst (λ (e : Database). RunsAlong b d now e) was.database run)

    -- a whole number of them is done then, too
    front_more : AreFront script steps stops s (done ++ now)
    front_more = record {
      first = first;
      others = others;
      read = subst (λ (rs : List Reading). Readings script rs) all_more (readings_some script);
      part = [];
      left = told_next steps others (behind steps first s);
      before = refl;
      are = sym one_more ∙ sym (append-nil (trace steps stops first s));
      goes_on = inl refl;
    }

    told_now : (part : List Event) → IsPart part (told_before steps reading current) → AreFront script steps stops s (done ++ part)
    told_now part is = front part (is.0, ap (λ (rs : List Reading). told_next steps rs current) next ∙ is.1)

    -- why a piece stopped is why the script did
    step_stops : (why : Stop) → StepCause b d (told_before steps reading current) current.world.last why → StopsBy a d script steps stops s why
    step_stops Disk cause = (
      rises_since a.disk_faults b.disk_faults d.disk_faults was.moments.continues.disk_faults run.continues.disk_faults cause.0,
      (done ++ cause.1.0, told_now cause.1.0 cause.1.1, printed_on d cause.1.0 cause.1.2),
    )
    step_stops Say cause = rises_since a.say_faults b.say_faults d.say_faults was.moments.continues.say_faults run.continues.say_faults cause
    step_stops Memory cause = (done ++ cause.0, told_now cause.0 cause.1, done_on d cause.0 cause.2)

    keep_stops : (why : Stop) → KeepCause b d why → (b.told → Done b d now current.world.last) → StopsBy a d script steps stops s why
    keep_stops Disk cause all = (
      rises_since a.disk_faults b.disk_faults d.disk_faults was.moments.continues.disk_faults run.continues.disk_faults cause,
      (done ++ now, front_more, printed_on d now (λ told. (all told).printed)),
    )
    keep_stops Say cause all = absurd cause
    keep_stops Memory cause all = (done ++ now, front_more, done_on d now all)

    pub stops_by : (why : Stop) → PieceCause b d (told_before steps reading current) (events_in steps reading current) current.world.last why → StopsBy a d script steps stops s why
    stops_by why cause = ⊎_elim (λ stopped. step_stops why stopped) (λ kept. keep_stops why kept.0 kept.1) cause

    -- one piece more
    pub one_piece : (place : ℕ) (next_one : Session) → Left script place others → (stops && is_failed (events_in steps reading current)) ≡ false → (b.told → d.printed ≡ b.printed ++ text (events_in steps reading current)) → next_one ≡ after steps reading current
        → next_one.world.last ≡ last_commit (events_in steps reading current) current.world.last → Progress a d steps stops script place s next_one
    one_piece place next_one left goes_on said is database = record {
      first = first;
      rest = others;
      all = all_more;
      left = left;
      goes_on = ap (λ (t : List Event). stops && is_failed t) one_more ∙ ap (λ (f : Bool). stops && f) (is_failed-append done now) ∙ both_no stops (is_failed done) (is_failed now) was.goes_on goes_on;
      moments = subst (λ (t : List Event). RunsAlong a d t db) (sym one_more) runs_more;
      printed = λ told. printed_on d now said told ∙ ap (λ (t : List Event). a.printed ++ text t) (sym one_more);
      reached = is ∙ ap (λ (t : Session). after steps reading t) was.reached ∙ sym (behind-append steps stops was.first (reading ∷ []) s);
      database = database ∙ last_on now ∙ ap (λ (t : List Event). last_commit t db) (sym one_more);
    }

    -- a piece at which the session stopped
    pub stopped : RunsAlong a d (trace steps stops (script_readings script) s) s.world.last
    stopped = by_test (stops && is_failed now) refl
      where
        by_test : (e : Bool) → (stops && is_failed now) ≡ e → RunsAlong a d (trace steps stops (script_readings script) s) s.world.last
        by_test true error = subst (λ (t : List Event). RunsAlong a d t db) (sym (split ∙ ap (λ (rs : List Reading). done ++ trace steps stops rs current) next ∙ ap (λ (t : List Event). done ++ t) (trace-last steps stops reading others current error))) runs_more
        by_test false fine =
            let tail = trace steps stops others (behind steps first s) in
            let ok = ap (λ (t : List Event). stops && is_failed t) one_more ∙ ap (λ (f : Bool). stops && f) (is_failed-append done now) ∙ both_no stops (is_failed done) (is_failed now) was.goes_on fine in
            subst (λ (t : List Event). RunsAlong a d t db)
            (sym (ap (λ (rs : List Reading). trace steps stops rs s) all_more ∙ trace-append steps stops first others s ok ∙ ap (λ (t : List Event). t ++ tail) one_more)) (along_more a d (done ++ now) tail db runs_more)

    -- a piece at which the script ends, since it got an error
    module _ (error : (stops && is_failed (events_in steps reading current)) ≡ true) where
      ends : trace steps stops (script_readings script) s ≡ done ++ now
      ends = split ∙ ap (λ (rs : List Reading). done ++ trace steps stops rs current) next ∙ ap (λ (t : List Event). done ++ t) (trace-last steps stops reading others current error)

      pub done_at_error : (before state : SessionState) → session_in before ≡ s → IsReady d state → database_in state ≡ last_commit (events_in steps reading current) current.world.last → (b.told → d.printed ≡ b.printed ++ text (events_in steps reading current))
          → GoesOn a d before state (trace steps stops (script_readings script) s)
      done_at_error before state is_before ready database said = record {
        ready = ready;
        database = database ∙ last_on now ∙ ap (λ (t : List Event). last_commit t db) (sym ends) ∙ ap (λ (t : Session). last_commit whole t.world.last) (sym is_before);
        printed = λ told. printed_on d now said told ∙ ap (λ (t : List Event). a.printed ++ text t) (sym ends);
      }

      pub at_error : (stops && is_failed (trace steps stops (script_readings script) s)) ≡ true
      at_error = ap (λ (t : List Event). stops && is_failed t) ends ∙ ap (λ (f : Bool). stops && f) (is_failed-append done now) ∙ either stops (is_failed done) (is_failed now) error
        where
          either : (s f g : Bool) → (s && g) ≡ true → (s && (f || g)) ≡ true
          either true true g is = refl
          either true false g is = is
          either false f g is = absurd (cc)

      pub leads_at_error : (last : Session) → last ≡ after steps reading current → LeadsTo script steps stops s last
      leads_at_error last is = (
        script_readings script,
        readings_some script,
        is ∙ sym (ended-last steps stops reading others current error) ∙ ap (λ (t : Session). ended_behind steps stops (reading ∷ others) t) was.reached
            ∙ sym (ended-append steps stops was.first (reading ∷ others) s was.goes_on)
            ∙ ap (λ (rs : List Reading). ended_behind steps stops rs s) (sym (was.all ∙ ap (λ (rs : List Reading). was.first ++ rs) next)),
      )
