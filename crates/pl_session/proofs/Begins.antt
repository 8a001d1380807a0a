-- How a store is opened.
use Rattle.std.proofs.Common.{◌≡◌, ◌<◌, ◌≤◌, ◌-◌, ◌^◌, ◌⊎◌, inl, inr, ⊎_elim, ℕ, List, [], length, Option, Result, Ok, Err, None, Some, IsErrAnd, arith, refl, sym, ◌∙◌, ap, subst}
use Rattle.std.specs.Prelude.{IfErr}
use Rattle.std.proofs.Math.Nat.{eq-or-lt_of_le}
use Rattle.pl_base.specs.Image.{Image}
use Rattle.pl_base.specs.declared.area.Area.{Area}
use Rattle.pl_base.specs.declared.area.Area.TheVariants.{A, B}
use Rattle.pl_disk.specs.Disk.{View, Continues, IsLawful, Looks, Rises, Runs, Settled, Untouched, Writes}
use Rattle.pl_disk.specs.Lent.{after_writes, goes_on, looked, run_weaker, runs_on}
use Rattle.pl_keeper.specs.Batches.{Damage, Log, Stored, batches, counting, spare_area, spare_by}
use Rattle.pl_keeper.specs.Lent.{misheaded, none_stored}
use Rattle.pl_keeper.specs.Reading.{IsMisheaded}
use Rattle.pl_frames.specs.Cause.{HasCause}
use Rattle.pl_frames.specs.declared.fail.FrameFail.{FrameFail}
use Rattle.pl_frames.specs.declared.fail.FrameFail.TheVariants as frames
use Rattle.pl_keeper.specs.Store.{Recovering, HasSame, Recovered, IsUsed}
use Rattle.pl_keeper.specs.declared.head.Head.{Head}
use Rattle.pl_undo.specs.Database.{Database}
use Rattle.pl_exec.specs.pl_journal.Operation.{empty}
use Rattle.pl_exec.specs.pl_world.Opening.{apply_batches, in_area, opened_by, opens}
use Rattle.pl_port.specs.pl_engine.Engines.{kept, world}
use Rattle.pl_port.specs.pl_engine.declared.engine.Engine.{Engine}
use Rattle.pl_port.proofs.Opens.{opens_by}
use Rattle.pl_port.specs.Stores.{Stores}
use Rattle.pl_session.specs.Halts.{start_fail_of}
use Rattle.pl_session.specs.Lent.{area_kept, area_on, area_untouched, area_wrote}
use Rattle.pl_session.specs.Spare.{KeepsArea}
use Rattle.pl_session.specs.Starts.{StartPair, OpensSame, IsStarted, HasStartCause}
use Rattle.pl_session.specs.State.{database_in}
use Rattle.pl_session.specs.declared.halt.StartFail.{StartFail}
use Rattle.pl_session.specs.declared.halt.StartFail.TheVariants.{Disk, Damaged, Memory}
use Rattle.pl_session.specs.declared.state.SessionState.{SessionState}
use Rattle.pl_session.proofs.Opens.{opens_alike, ready_by}
use Rattle.pl_transactions.specs.State.{Stands, is_block, paired}
use Rattle.pl_transactions.specs.declared.transaction.Transaction.{Transaction}
use Rattle.pl_exec.specs.pl_world.Sessions.{new_session, new_world, session}
use Rattle.pl_exec.specs.pl_world.World.{World}
use Rattle.pl_exec.specs.pl_world.declared.session.Mode.TheVariants as mode

-- the images after a recover are those from before, or have the same batches
left_by : (a m : View) → IsLawful a → IsLawful m → a.told → Writes a m (Recovering a) → (c : Image) → m.may_leave c → Recovering a c
left_by a m lawful lawful' told writes c left = after_writes a m (Recovering a) lawful lawful' told writes (λ i before. record { batches = inl before; area_b = (i, before, refl) }) c left

recovering : (a : View) (c : Image) → Recovering a c → a.may_leave c ⊎ (opens c ≡ opens a.seen)
recovering a c is = ⊎_elim (λ before. inl before) (λ same. inr (opens_alike c a.seen same)) is.batches

pub starts : (a m : View) → Writes a m (Recovering a) → Runs a m (StartPair a)
starts a m writes = run_weaker a m _ (StartPair a) writes.moments (λ told p c is. record { printed = is.0; opened = recovering a c is.1 })

-- then the store is read
pub starts_on : (a m d : View) → (a.told → IsLawful a) → (m.told → IsLawful m) → Writes a m (Recovering a) → Looks m d → Runs a d (StartPair a)
starts_on a m d lawful lawful' writes looks =
    runs_on a m d (StartPair a) _ (StartPair a) (starts a m writes) (looked m d looks) (λ told p c is. is)
    (λ told p c is. record {
      printed = is.0 ∙ writes.printed told;
      opened = recovering a c (left_by a m (lawful told) (lawful' (writes.moments.continues.told told)) told writes c is.1);
    })

pub settles : (a m : View) → Settled a m (HasSame a) → Settled a m (OpensSame a)
settles a m settled = record { each = λ t later is. let each = settled.each t later is in (each.0, λ p c left. let it = each.1 p c left in (it.0, opens_alike c a.seen it.1)) }

-- a look adds no moment with other files
pub settles_on : (a m d : View) → (m.told → IsLawful m) → m.told → Settled a m (HasSame a) → Looks m d → Settled a d (OpensSame a)
settles_on a m d lawful told settled looks = record {
  each = λ t later is.
      let each = (settles a m settled).each t later (sym (looks.images told).synced ∙ is) in (
        omega (arith, each.0, (looks.time told).later),
        λ p c left. ⊎_elim (each.1 p c)
            (λ now. subst (λ (q : List ℕ). OpensSame a q c) (sym now.0) (each.1 m.printed c ((lawful told).counts_now t c each.0 now.1)))
            ((looks.time told).nothing_else t p c each.0 left),
      );
}

-- what is left alone stays so while the store is read
pub untouched_on : (a m d : View) → m.told → Untouched a m → Looks m d → Untouched a d
untouched_on a m d told untouched looks = record {
  seen = (looks.images told).seen ∙ untouched.seen;
  now = λ c left. untouched.now c ((looks.images told).crash c left);
  time = goes_on a m d (λ p c. a.may_leave c) (λ p c. (p ≡ m.printed) × m.may_leave c) (λ p c. a.may_leave c) untouched.time (looks.time told) (λ p c is. is) (λ p c is. untouched.now c is.1);
}

-- the form of the files is damaged, or an operation doesn't apply
pub form_damaged : (c : Image) (damage : Damage) → batches c ≡ Err damage → opens c ≡ Err damage
unfolding opens
form_damaged c damage is = ap (λ (r : Result Log Damage). opened_by r) is

pub none_applies : (c : Image) (counts : Area) (list : List Stored) (area : Area) (at : ℕ) → batches c ≡ Ok (record { area = counts; list = list }) → (area ≡ counts) × (apply_batches list empty ≡ Err at) → opens c ≡ Err (record { area = area; at = at })
unfolding opens
none_applies c counts list area at is (same, stops) = ap (λ (r : Result Log Damage). opened_by r) is ∙ ap (λ (r : Result Database ℕ). in_area counts r) stops
    ∙ ap (λ (x : Area). let r : Result Database Damage = Err (record { area = x; at = at }) in r) (sym same)

-- the headers are damaged, or the store could not be recovered
headers_failed : (a b : View) (fail : FrameFail) → HasCause (IsMisheaded a) a b fail → HasStartCause a b (start_fail_of fail)
headers_failed a b frames.Fault cause = cause
headers_failed a b (frames.Damaged area at) cause = λ told. form_damaged a.seen (record { area = area; at = at }) (misheaded a.seen (record { area = area; at = at }) (cause told))
headers_failed a b frames.Memory cause = tt

pub start_failed : {T : Type 0} (a b : View) (fail : FrameFail) (r : Result T StartFail) → IsErrAnd r (λ x. x ≡ start_fail_of fail) → HasCause (IsMisheaded a) a b fail → IfErr r (HasStartCause a b)
start_failed a b fail (Ok x) is cause = tt
start_failed a b fail (Err e) is cause = subst (λ (x : StartFail). HasStartCause a b x) (sym is) (headers_failed a b fail cause)

-- a count that rose later rose since an earlier time
pub rises_since : (a b d : ℕ) → a ≤ b → b ≤ d → Rises b d → Rises a d
rises_since a b d h k rises below =
    ⊎_elim (λ same. let low : b < 2 ^ 64 - 1 = omega (arith, same, below) in let rose = rises low in omega (arith, same, rose)) (λ less. omega (arith, less, k)) (eq-or-lt_of_le h)

-- why the store could not be read, as of the files from before the recover
read_since : (a m d : View) → Continues a m → Looks m d → (reader : Head) → (a.told → Recovered a m reader) → (fail : StartFail) → HasStartCause m d fail → HasStartCause a d fail
read_since a m d on looks reader recovered Disk cause = rises_since a.disk_faults m.disk_faults d.disk_faults on.disk_faults looks.continues.disk_faults cause
read_since a m d on looks reader recovered (Damaged area at) cause = λ told. opens_alike a.seen m.seen (sym (recovered told).same) ∙ cause (on.told told)
read_since a m d on looks reader recovered Memory cause = tt

pub fold_failed : {T : Type 0} (a m d : View) → Continues a m → Looks m d → (reader : Head) → (a.told → Recovered a m reader) → (fail : StartFail) (r : Result T StartFail) → IsErrAnd r (λ x. x ≡ fail) → HasStartCause m d fail → IfErr r (HasStartCause a d)
fold_failed a m d on looks reader recovered fail (Ok x) is cause = tt
fold_failed a m d on looks reader recovered fail (Err e) is cause = subst (λ (x : StartFail). HasStartCause a d x) (sym is) (read_since a m d on looks reader recovered fail cause)

-- files that open to nothing aren't those of a store to be made
pub is_used : (c : Image) (damage : Damage) → opens c ≡ Err damage → IsUsed c
is_used c damage is = λ none. clash (sym (opens_by c A [] empty (none_stored c none) refl) ∙ is)
  where
    clash : (let r : Result Database Damage = Ok empty in r ≡ Err damage) → ⊥
    clash h = cc

-- the area that doesn't count is left alone
pub keeps_spare : (a b : View) → a.told → Writes a b (Recovering a) → b.seen.b ≡ a.seen.b → (IsUsed a.seen → Untouched a b) → KeepsArea (spare_area a.seen) a b
keeps_spare a b told writes same used = by_counting (counting a.seen) refl
  where
    some_none : (area : Area) → (let r : Result (Option Area) Damage = Ok (Some area) in r ≡ Ok None) → ⊥
    some_none area h = cc

    err_none : (damage : Damage) → (let r : Result (Option Area) Damage = Err damage in r ≡ Ok None) → ⊥
    err_none damage h = cc

    by_counting : (r : Result (Option Area) Damage) → counting a.seen ≡ r → KeepsArea (spare_area a.seen) a b
    by_counting (Ok None) is = subst (λ (r : Result (Option Area) Damage). KeepsArea (spare_by r) a b) (sym is) (area_wrote B a b (Recovering a) told writes (λ c it. it.area_b) same)
    by_counting (Ok (Some area)) is = area_untouched (spare_area a.seen) a b (used (λ none. some_none area (sym is ∙ none)))
    by_counting (Err damage) is = area_untouched (spare_area a.seen) a b (used (λ none. err_none damage (sym is ∙ none)))

-- the area stays while the store is read
pub keeps_spare_on : (area : Area) (a m d : View) → IsLawful a → IsLawful m → m.told → KeepsArea area a m → Looks m d → KeepsArea area a d
keeps_spare_on area a m d lawful lawful' told first looks = area_on area a m d lawful lawful' first (area_kept area m d (λ p. p ≡ m.printed) (looks.images told) (looks.time told))

-- a new session is in no block
pub new_stands : (t : Transaction) (e : Engine) (now : Database) → world e ≡ new_world now → t.mode ≡ mode.Idle → t.names.items ≡ [] → Stands t e
new_stands t e now new is_idle names = record {
  marks = ap (λ (w : World). w.depth) new ∙ ap (λ (ns : List (List ℕ)). length ns) (sym names);
  in_block = ap (λ (w : World). w.in_block) new ∙ ap is_block (sym is_idle);
  nameless = λ idle. names;
  settled = λ idle. ap (λ (w : World). w.last) new ∙ sym (ap (λ (w : World). w.database) new);
}

-- a new session over the batches that were read
pub started : (a m d : View) (reader : Head) (state : SessionState) (now : Database) → a.is_attached → Continues a m → Looks m d → (a.told → Recovered a m reader) → (m.told → Stores d state.keeper now) → world state.engine ≡ new_world now
    → state.transaction.mode ≡ mode.Idle → state.transaction.names.items ≡ [] → state.failed ≡ None → IsStarted a d state
started a m d reader state now attached on looks recovered stores new is_idle names is_open = record {
  ready = ready_by d state is_open (new_stands state.transaction state.engine now new is_idle names)
      (record {
        attached = looks.continues.is_attached (on.is_attached attached);
        store = λ told. subst (λ (e : Database). Stores d state.keeper e) (sym same) (stores (looks.continues.told_before told));
      });
  begins = (λ i. session (new i) (is_idle i) (paired (names i) (kept state.engine).marks)) ∙ ap (λ (e : Database). new_session e) (sym same);
  opened = λ told. opens_by a.seen state.keeper.area (stores (on.told told)).list (database_in state) (found told) (subst (λ (e : Database). apply_batches (stores (on.told told)).list empty ≡ Ok e) (sym same) (stores (on.told told)).leads);
  same = λ told. ap batches (looks.images (on.told told)).seen ∙ (recovered told).same;
  synced = λ told. let it = (recovered told).synced in (it.0, it.1, (looks.images (on.told told)).synced ∙ it.2);
}
  where
    same : database_in state ≡ now
    same = ap (λ (w : World). w.last) new

    found : (told : a.told) → batches a.seen ≡ Ok (record { area = state.keeper.area; list = (stores (on.told told)).list })
    found told = sym (recovered told).same ∙ sym (ap batches (looks.images (on.told told)).seen) ∙ (stores (on.told told)).store.has.batches
