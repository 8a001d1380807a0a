-- How a step ends.
use Rattle.std.proofs.Common.{◌≡◌, ◌∙◌, ◌++◌, inl, ℕ, List, [], ◌∷◌, Bool, false, None, Some, Option, Result, Ok, Err, IsErrAnd, append_assoc, ap, refl, subst, sym}
use Rattle.std.specs.Prelude.{IfErr, IfOk, OnOk, is_some}
use Rattle.std.proofs.lemmas.List.{append-nil}
use Rattle.pl_base.specs.declared.fail.Fail.{Fail}
use Rattle.pl_base.specs.declared.state.State.{State}
use Rattle.pl_disk.specs.Disk.{View, Keeps, Says}
use Rattle.pl_disk.specs.Lent.{from_say, run_weaker}
use Rattle.pl_disk.specs.declared.device.Failed.{Failed as Fault}
use Rattle.pl_port.specs.pl_engine.Engines.{world}
use Rattle.pl_port.specs.pl_engine.Texts.{do_bodies}
use Rattle.pl_port.specs.pl_engine.declared.stop.Stop.{Stop}
use Rattle.pl_port.specs.pl_engine.declared.stop.Stop.TheVariants.{Disk, Say, Memory}
use Rattle.pl_exec.proofs.of_pl_world.Lent.{last_commit-append, text-append}
use Rattle.pl_exec.specs.pl_world.Covered.{AlongFrom}
use Rattle.pl_exec.specs.pl_world.Trace.{Event, is_failed, last_commit, text}
use Rattle.pl_port.proofs.Opens.{stores_open}
use Rattle.pl_port.specs.PortLaws.{along_more, along_on, takes_none}
use Rattle.pl_port.specs.Ports.{Fits}
use Rattle.pl_port.specs.Stores.{AllOpen, RunsAlong}
use Rattle.pl_reading.specs.declared.reading.Reading.{Reading}
use Rattle.pl_reading.specs.declared.reading.Reading.TheVariants.{Nothing, Refused, Spelled}
use Rattle.pl_session.proofs.Begins.{rises_since}
use Rattle.pl_session.proofs.Opens.{fits_still, ready_by, ready_fits}
use Rattle.pl_session.proofs.Went.{command_events, failed_is, replies_last, replies_text}
use Rattle.pl_session.specs.Endings.{Done}
use Rattle.pl_session.specs.State.{database_in, session_in, IsReady}
use Rattle.pl_session.specs.Steps.{DoneBefore, SayCause, StepCause, StepEnd, replies}
use Rattle.pl_session.specs.Traces.{after, events_by, events_in, session_by}
use Rattle.pl_session.specs.declared.state.SessionState.{SessionState}
use Rattle.pl_transactions.specs.Answer.{Answer}
use Rattle.pl_transactions.specs.Before.{told}
use Rattle.pl_transactions.specs.Ends.{as_ran}
use Rattle.pl_transactions.specs.Goes.{Quietly}
use Rattle.pl_transactions.specs.Lines.{lines_by, lines_of}
use Rattle.pl_transactions.specs.declared.transaction.Transaction.{Transaction}
use Rattle.pl_tree.specs.declared.command.Command.{Command}
use Rattle.pl_undo.specs.Database.{Database}
use Rattle.pl_exec.specs.pl_world.Errors.{failure}
use Rattle.pl_exec.specs.pl_world.Laws.{end_of, events}
use Rattle.pl_exec.specs.pl_world.Scripts.{events_of, outward, piece_went, reply_event, session_of}
use Rattle.pl_exec.specs.pl_world.Sessions.{Went, does_command, refused, top, went}
use Rattle.pl_exec.specs.pl_world.World.{Raised}
use Rattle.pl_exec.specs.pl_world.declared.session.Reply.{Reply}

-- an error that is passed on
pub if_err : {T E : Type 0} (P : E → Type 0) (r : Result T E) (e : E) → IsErrAnd r (λ x. x ≡ e) → P e → IfErr r P
if_err P (Ok x) e is holds = tt
if_err P (Err x) e is holds = subst P (sym is) holds

-- ---- nothing is done

-- nothing of a script is done, and a crash leaves what it would have
pub none_done : (v : View) (state : SessionState) → IsReady v state → v.told → Done v v [] (database_in state)
none_done v state ready told = record { printed = sym (append-nil v.printed); opens_to = λ c left. ready.opens_to told c left }

pub idle : (v : View) (state : SessionState) (told : List Event) → IsReady v state → StepCause v v told (database_in state) Memory
idle v state told ready = ([], (told, refl), λ t. none_done v state ready t)

-- a piece without a command
pub nothing_left : (v : View) (state : SessionState) (steps : ℕ) (reading : Reading) → reading ≡ Nothing → IsReady v state → StepEnd v v state state steps reading (Ok false)
nothing_left v state steps reading is ready = subst (λ (r : Reading). StepEnd v v state state steps r (Ok false)) (sym is)
    (record { ready = ready; database = refl; printed = λ told. sym (append-nil v.printed) }, refl, refl)

-- ---- a piece that is answered

module _ (a b d : View) (before state : SessionState) (steps : ℕ) (reading : Reading) (w : Went) (answer : Reply) (ready : IsReady a before)
    (goes : piece_went do_bodies steps reading (session_in before) ≡ Some w) (done : DoneBefore w answer state.transaction before.engine state.engine a b before.keeper state.keeper) where
  abbrev db : Database
  db = database_in before

  abbrev es : List Event
  es = outward done.events

  events_are : events_in steps reading (session_in before) ≡ es ++ replies answer
  events_are = ap events_by goes ∙ ap events_of done.gives

  session_is : session_in state ≡ after steps reading (session_in before)
  session_is = sym (ap (λ (o : Option Went). session_by o (session_in before)) goes ∙ ap session_of done.gives)

  fits : Fits b state.keeper (last_commit es db)
  fits = done.takes.store (ready_fits a before ready)

  all_open : AllOpen b (last_commit es db)
  all_open told c left = stores_open b state.keeper (last_commit es db) (fits.store told) c left

  module _ (says : (e : Database) → AllOpen b e → RunsAlong b d (replies answer) e) where
    said : RunsAlong b d (replies answer) (last_commit es db)
    said = says (last_commit es db) all_open

    pub answered_moments : RunsAlong a d (events_in steps reading (session_in before)) db
    answered_moments = subst (λ (xs : List Event). RunsAlong a d xs db) (sym events_are) (along_on a b d es (replies answer) db done.takes.printed done.takes.moments said)

    answered : (failed : Bool) → state.failed ≡ None → (b.told → Keeps b d) → (b.told → d.printed ≡ b.printed ++ lines_of answer) → failed ≡ is_failed (replies answer) → StepEnd a d before state steps reading (Ok failed)
    answered failed is_open keeps printed is = (
      record {
        ready = ready_by d state is_open done.stands (fits_still b d state.keeper (database_in state) said.continues keeps (subst (λ (e : Database). Fits b state.keeper e) (sym done.last) fits));
        database = done.last ∙ sym (replies_last answer (last_commit es db)) ∙ sym (last_commit-append es (replies answer) db) ∙ ap (λ (xs : List Event). last_commit xs db) (sym events_are);
        printed = λ told. printed (done.takes.moments.continues.told told) ∙ ap (λ (l : List ℕ). l ++ lines_of answer) (done.takes.printed told) ∙ append_assoc a.printed (text es) (lines_of answer)
            ∙ ap (λ (l : List ℕ). a.printed ++ l) (ap (λ (l : List ℕ). text es ++ l) (sym (replies_text answer)) ∙ sym (text-append es (replies answer)) ∙ ap text (sym events_are));
      },
      session_is,
      is ∙ sym (failed_is done.events answer) ∙ ap is_failed (sym events_are),
    )

    unsaid : (why : Stop) → SayCause b d why → StepEnd a d before state steps reading (Err why)
    unsaid Disk cause = absurd cause
    unsaid Say cause = rises_since a.say_faults b.say_faults d.say_faults done.takes.moments.continues.say_faults said.continues.say_faults cause
    unsaid Memory cause = absurd cause

    -- its reply is printed, or isn't
    pub answered_end : (r : Result Bool Stop) → state.failed ≡ None → (b.told → Keeps b d) → (b.told → OnOk r (d.printed ≡ b.printed ++ lines_of answer))
        → IfOk r (λ failed. failed ≡ is_failed (replies answer)) → IfErr r (SayCause b d) → StepEnd a d before state steps reading r
    answered_end (Ok failed) is_open keeps printed is cause = answered failed is_open keeps printed is
    answered_end (Err why) is_open keeps printed is cause = unsaid why cause

-- ---- a piece that isn't answered

-- for want of memory it isn't refused
pub unrefused : (v : View) (before state : SessionState) (code : State) (steps : ℕ) (stop : Stop) (r : Result Bool Stop) → IsErrAnd r (λ x. x ≡ stop) → stop ≡ Memory → IsReady v before → StepEnd v v before state steps (Refused code) r
unrefused v before state code steps stop (Ok failed) is memory ready = absurd is
unrefused v before state code steps stop (Err why) is memory ready = subst (λ (x : Stop). StepCause v v [] (database_in before) x) (sym (is ∙ memory)) (idle v before [] ready)

-- a refusal does nothing
pub refusal : (v : View) (before : SessionState) (u : Transaction) (code : State) (answer : Answer) → Quietly (refused code (session_in before)) answer u before.engine before.engine
    → DoneBefore (refused code (session_in before)) answer.reply u before.engine before.engine v v before.keeper before.keeper
refusal v before u code answer q = let f = failure code top (world before.engine) in record {
  events = Raised f ∷ [];
  gives = λ i. went (q.session i) (q.quiet.1 i) (Raised f ∷ []);
  takes = takes_none (world before.engine).last v before.keeper;
  last = refl;
  stands = q.stands;
}

module _ (a b : View) (before : SessionState) (steps : ℕ) (c : Command) where
  pub unanswered_moments : RunsAlong a b (outward (events (as_ran (does_command do_bodies steps c (session_in before))))) (database_in before) → RunsAlong a b (events_in steps (Spelled c) (session_in before)) (database_in before)
  unanswered_moments run =
      let all = as_ran (does_command do_bodies steps c (session_in before)) in
      subst (λ (es : List Event). RunsAlong a b es (database_in before)) (sym (command_events c steps (session_in before)))
      (along_more a b (outward (events all)) (replies (end_of all)) (database_in before) run)

  pub unanswered : (state : SessionState) (why : Stop) (r : Result Bool Stop) → IsErrAnd r (λ x. x ≡ why) → StepCause a b (outward (told do_bodies steps c (session_in before))) (database_in before) why → StepEnd a b before state steps (Spelled c) r
  unanswered state why (Ok failed) is cause = absurd is
  unanswered state why (Err x) is cause = subst (λ (y : Stop). StepCause a b (outward (told do_bodies steps c (session_in before))) (database_in before) y) (sym is) cause

-- ---- a reply is printed

pub reply_along : {T : Type 0} (a d : View) (answer : Reply) (db : Database) (result : Result T Fault) → AllOpen a db → Says (lines_of answer) a d result → RunsAlong a d (replies answer) db
reply_along {T} a d answer db result all_open says = by_fail answer.fail says
  where
    by_fail : (fail : Option Fail) → Says (lines_by fail answer) a d result → RunsAlong a d (reply_event fail answer ∷ []) db
    by_fail (Some f) says = run_weaker a d _ (AlongFrom a.printed (reply_event (Some f) answer ∷ []) db) (from_say (lines_by (Some f) answer) a d result says)
        (λ told p c is. (is.0.0, is.0.2, inl (is.0.1, all_open told c is.1)))
    by_fail None says = run_weaker a d _ (AlongFrom a.printed (reply_event None answer ∷ []) db) (from_say (lines_by None answer) a d result says)
        (λ told p c is. (is.0.0, is.0.2, inl (is.0.1, all_open told c is.1)))

pub reply_failed : (answer : Reply) → is_some answer.fail ≡ is_failed (replies answer)
reply_failed answer = by_fail answer.fail
  where
    by_fail : (fail : Option Fail) → is_some fail ≡ is_failed (reply_event fail answer ∷ [])
    by_fail (Some f) = refl
    by_fail None = refl
