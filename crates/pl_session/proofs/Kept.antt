-- A store that is kept short.
use Rattle.std.proofs.Common.{◌≡◌, ◌<◌, ◌≤◌, ◌-◌, ◌^◌, ◌&&◌, inl, inr, ⊎_elim, ℕ, ◌+◌, ◌*◌, List, [], ◌∷◌, ◌++◌, cond, nat_lt, Bool, true, false, Some, Result, Ok, Err, IsErrAnd, refl, sym, ◌∙◌, ap, subst, arith}
use Rattle.std.specs.Prelude.{OnOk}
use Rattle.std.proofs.lemmas.Bool.Decides.{nat_tests}
use Rattle.std.proofs.lemmas.List.{append-nil}
use Rattle.pl_base.specs.Image.{Image, other}
use Rattle.pl_disk.specs.Disk.{View, IsLawful, Writes}
use Rattle.pl_disk.specs.Lent.{after_writes, no_run, run_weaker, writes_weaker}
use Rattle.pl_keeper.specs.Batches.{Damage}
use Rattle.pl_keeper.specs.Checkpoint.{CheckpointedPayload, CheckpointingPayload, is_due, next_head}
use Rattle.pl_keeper.specs.declared.head.Head.{Head}
use Rattle.pl_exec.specs.pl_journal.Operation.{apply_payload, empty}
use Rattle.pl_exec.specs.pl_world.Covered.{AlongFrom}
use Rattle.pl_undo.specs.Database.{Database}
use Rattle.pl_exec.specs.pl_world.Opening.{opens}
use Rattle.pl_exec.specs.pl_world.Trace.{Event, is_failed, last_commit, text}
use Rattle.pl_port.specs.pl_engine.Engines.{world}
use Rattle.pl_port.specs.pl_engine.declared.engine.Engine.{Engine}
use Rattle.pl_port.specs.pl_engine.declared.stop.Stop.{Stop}
use Rattle.pl_port.specs.pl_engine.declared.stop.Stop.TheVariants.{Disk, Say, Memory}
use Rattle.pl_port.proofs.Opens.{leads_on, opens_by, spelled_by, stores_open}
use Rattle.pl_port.specs.PortLaws.{along_on}
use Rattle.pl_port.specs.Stores.{Stores}
use Rattle.pl_reading.specs.declared.reading.Reading.{Reading}
use Rattle.pl_session.specs.Endings.{Done, GoesOn, RunsAlong}
use Rattle.pl_session.specs.State.{IsReady, database_in, session_in}
use Rattle.pl_session.specs.Steps.{KeepCause, OpensTo, PieceEnd, StepEnd}
use Rattle.pl_session.specs.Traces.{after, events_in, told_before}
use Rattle.pl_session.specs.declared.state.SessionState.{SessionState}
use Rattle.pl_transactions.specs.State.{Stands, is_idle}
use Rattle.pl_transactions.specs.declared.transaction.Transaction.{Transaction}
use Rattle.pl_exec.specs.pl_world.Sessions.{Session}
use Rattle.pl_exec.specs.pl_world.declared.session.Mode.{Mode}
use Rattle.pl_exec.specs.pl_world.declared.session.Mode.TheVariants as mode
use Rattle.pl_session.proofs.Begins.{rises_since}

-- ---- the whole database is written anew

-- nothing is written
pub no_writes : (v : View) (P : Image → Type 0) → Writes v v P
no_writes v P = record { moments = no_run v _; printed = λ told. refl; say_faults = refl }

-- each moment of a checkpoint opens to the database
pub rewrites : (a b : View) (keeper : Head) (payload : List ℕ) (db : Database) → (a.told → Stores a keeper db) → apply_payload payload empty ≡ Some db → Writes a b (CheckpointingPayload a keeper payload) → Writes a b (OpensTo db)
rewrites a b keeper payload db store leads run = writes_weaker a b _ (OpensTo db) run (λ told c is.
    let s = store told in
    let it = spelled_by payload empty db leads in
    ⊎_elim (λ old. opens_by c keeper.area s.list db old s.leads)
    (λ new. opens_by c (other keeper.area) ((17, it.0) ∷ []) db new (leads_on [] 17 it.0 empty db refl it.2))
    (is it.0 it.1 s.list s.store))

-- and so does the store after it
pub rewritten : (b : View) (old new : Head) (payload : List ℕ) (db : Database) → apply_payload payload empty ≡ Some db → CheckpointedPayload b old new payload → Stores b new db
rewritten b old new payload db leads done =
    let it = spelled_by payload empty db leads in
    record { list = (17, it.0) ∷ []; store = (done it.0 it.1).store; leads = leads_on [] 17 it.0 empty db refl it.2 }

-- the next one isn't due at once
pub next_short : (old new : Head) (end : ℕ) → new ≡ next_head old end → is_due new ≡ false
next_short old new end is = ap is_due is ∙ (λ i. nat_lt (old.generation + 1) (2 ^ 64 - 1) && nat_lt (2 * (cond (later i) (end + 1) 18) + 4194304) (end + 1)) ∙ ap (λ (b : Bool). nat_lt (old.generation + 1) (2 ^ 64 - 1) && b) never ∙ and_false (nat_lt (old.generation + 1) (2 ^ 64 - 1))
  where
    later : nat_lt 0 (old.generation + 1) ≡ true
    later = grind (arith, nat_tests)

    never : nat_lt (2 * (end + 1) + 4194304) (end + 1) ≡ false
    never = grind (arith, nat_tests)

    and_false : (b : Bool) → (b && false) ≡ false
    and_false true = refl
    and_false false = refl

-- one that is due has a next generation
pub has_next : (head : Head) → is_due head ≡ true → head.generation < 2 ^ 64 - 1
has_next head is = by_test (nat_lt head.generation (2 ^ 64 - 1)) refl is
  where
    below : nat_lt head.generation (2 ^ 64 - 1) ≡ true → head.generation < 2 ^ 64 - 1
    below h = grind (arith, nat_tests)

    by_test : (b : Bool) → nat_lt head.generation (2 ^ 64 - 1) ≡ b → (b && nat_lt (2 * head.base + 4194304) (head.end + 1)) ≡ true → head.generation < 2 ^ 64 - 1
    by_test true h is = below h
    by_test false h is = absurd (cc)

-- ---- whether a session is in a block

pub is_so : (m : Mode) → is_idle m ≡ true → m ≡ mode.Idle
is_so mode.Idle is = refl
is_so mode.Block is = absurd (cc)
is_so mode.Failed is = absurd (cc)

pub not_so : {A : Type 0} (m : Mode) → is_idle m ≡ false → m ≡ mode.Idle → A
not_so m is idle = let no : is_idle mode.Idle ≡ false = ap is_idle (sym idle) ∙ is in absurd (cc)

-- the store of a ready session, where all is committed
pub stored_now : (v : View) (state : SessionState) (now : Database) → IsReady v state → is_idle state.transaction.mode ≡ true → now ≡ (world state.engine).database → v.told → Stores v state.keeper now
stored_now v state now ready idle is told =
    subst (λ (e : Database). Stores v state.keeper e) (ready.stands.settled (is_so state.transaction.mode idle) ∙ sym is) (ready.store told)

-- it is ready with another keeper
pub rewritten_ready : (a d : View) (before state : SessionState) (now : Database) → IsReady a before → is_idle before.transaction.mode ≡ true → now ≡ (world before.engine).database → Writes a d (OpensTo now) → (a.told → Stores d state.keeper now)
    → state.failed ≡ before.failed → state.transaction ≡ before.transaction → state.engine ≡ before.engine → IsReady d state
rewritten_ready a d before state now ready idle is writes store same_failed same_transaction same_engine = record {
  is_open = same_failed ∙ ready.is_open;
  attached = writes.moments.continues.is_attached ready.attached;
  stands = subst (λ (t : Transaction). Stands t state.engine) (sym same_transaction) (subst (λ (e : Engine). Stands before.transaction e) (sym same_engine) ready.stands);
  opens_to = λ told c left. stores_open d state.keeper (database_in state) (kept told) c left;
  store = kept;
}
  where
    last : now ≡ database_in state
    last = is ∙ sym (ready.stands.settled (is_so before.transaction.mode idle)) ∙ sym (ap (λ (e : Engine). (world e).last) same_engine)

    kept : d.told → Stores d state.keeper (database_in state)
    kept told = subst (λ (e : Database). Stores d state.keeper e) last (store (writes.moments.continues.told_before told))

pub shortened_ready : {T : Type 0} (a d : View) (before state : SessionState) (now : Database) (r : Result T Stop) → IsReady a before → is_idle before.transaction.mode ≡ true → now ≡ (world before.engine).database → Writes a d (OpensTo now)
    → (a.told → OnOk r (Stores d state.keeper now)) → state.failed ≡ before.failed → state.transaction ≡ before.transaction → state.engine ≡ before.engine → OnOk r (IsReady d state)
shortened_ready a d before state now (Ok x) ready idle is writes store same_failed same_transaction same_engine = rewritten_ready a d before state now ready idle is writes store same_failed same_transaction same_engine
shortened_ready a d before state now (Err e) ready idle is writes store same_failed same_transaction same_engine = tt

pub shortened_due : {T : Type 0} (A : Type 0) (due : Bool) (r : Result T Stop) → OnOk r (due ≡ false) → OnOk r (A → due ≡ false)
shortened_due A due (Ok x) is = λ idle. is
shortened_due A due (Err e) is = tt

-- what is written opens to the database of the last commit
pub writes_last : (a d : View) (state : SessionState) (now : Database) → IsReady a state → is_idle state.transaction.mode ≡ true → now ≡ (world state.engine).database → Writes a d (OpensTo now) → Writes a d (OpensTo (database_in state))
writes_last a d state now ready idle is writes = subst (λ (e : Database). Writes a d (OpensTo e)) (is ∙ sym (ready.stands.settled (is_so state.transaction.mode idle))) writes

-- ---- behind a command

as_ok : (a b : Database) → a ≡ b → (let r : Result Database Damage = Ok a in r) ≡ Ok b
as_ok a b is = ap (λ (d : Database). let r : Result Database Damage = Ok d in r) is

keep_since : (a m d : View) → a.disk_faults ≤ m.disk_faults → m.disk_faults ≤ d.disk_faults → (why : Stop) → KeepCause m d why → KeepCause a d why
keep_since a m d first second Disk cause = rises_since a.disk_faults m.disk_faults d.disk_faults first second cause
keep_since a m d first second Say cause = cause
keep_since a m d first second Memory cause = tt

module _ (a m d : View) (before mid : SessionState) (steps : ℕ) (reading : Reading) (run : RunsAlong a m (events_in steps reading (session_in before)) (database_in before))
    (done : GoesOn a m before mid (events_in steps reading (session_in before))) (writes : Writes m d (OpensTo (database_in mid))) where
  abbrev events : List Event
  events = events_in steps reading (session_in before)

  abbrev db : Database
  db = last_commit events (database_in before)

  pub kept_moments : RunsAlong a d (events_in steps reading (session_in before)) (database_in before)
  kept_moments = subst (λ (es : List Event). RunsAlong a d es (database_in before)) (append-nil events)
      (along_on a m d events [] (database_in before) done.printed run
      (run_weaker m d _ (AlongFrom m.printed [] db) writes.moments (λ told p c is. ([], is.0 ∙ sym (append-nil m.printed), (refl, is.1 ∙ as_ok (database_in mid) db done.database)))))

  kept_printed : a.told → d.printed ≡ a.printed ++ text events
  kept_printed told = writes.printed (run.continues.told told) ∙ done.printed told

  kept_open : IsLawful m → IsLawful d → m.told → (c : Image) → d.may_leave c → opens c ≡ Ok db
  kept_open lawful lawful' told c left = after_writes m d (OpensTo (database_in mid)) lawful lawful' told writes (λ i was. done.ready.opens_to told i was) c left ∙ as_ok (database_in mid) db done.database

  kept_all : (m.told → IsLawful m) → (d.told → IsLawful d) → a.told → Done a d events (database_in before)
  kept_all lawful lawful' told = let now = run.continues.told told in record {
    printed = kept_printed told;
    opens_to = λ c left. kept_open (lawful now) (lawful' (writes.moments.continues.told now)) now c left;
  }

  pub kept_stop : (m.told → IsLawful m) → (d.told → IsLawful d) → (state : SessionState) (why : Stop) (r : Result Bool Stop) → IsErrAnd r (λ x. x ≡ why) → KeepCause m d why → PieceEnd a d before state steps reading r
  kept_stop lawful lawful' state why (Ok failed) is cause = absurd is
  kept_stop lawful lawful' state why (Err x) is cause =
      inr (keep_since a m d run.continues.disk_faults writes.moments.continues.disk_faults x (subst (λ (y : Stop). KeepCause m d y) (sym is) cause), kept_all lawful lawful')

  pub kept_done : (state : SessionState) (failed : Bool) → IsReady d state → session_in state ≡ session_in mid → session_in mid ≡ after steps reading (session_in before) → failed ≡ is_failed (events_in steps reading (session_in before)) → PieceEnd a d before state steps reading (Ok failed)
  kept_done state failed ready same leads is = (
    record {
      ready = ready;
      database = ap (λ (s : Session). s.world.last) same ∙ done.database;
      printed = kept_printed;
    },
    same ∙ leads,
    is,
  )

-- a piece stopped as its step did
pub step_stop : (a m : View) (before state : SessionState) (steps : ℕ) (reading : Reading) (why : Stop) (r : Result Bool Stop) → IsErrAnd r (λ x. x ≡ why) → StepEnd a m before state steps reading (Err why)
    → PieceEnd a m before state steps reading r
step_stop a m before state steps reading why (Ok failed) is cause = absurd is
step_stop a m before state steps reading why (Err x) is cause = inl (subst (λ (y : Stop). StepEnd a m before state steps reading (Err y)) (sym is) cause)
