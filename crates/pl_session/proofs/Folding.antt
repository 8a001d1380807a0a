-- The batches that were read so far.
use Rattle.std.proofs.Common.{◌≡◌, ◌++◌, ℕ, List, [], ◌∷◌, true, false, Option, Some, None, Result, Ok, Err, IsErrAnd, sym, ◌∙◌, ap, subst}
use Rattle.std.specs.Prelude.{IfErr}
use Rattle.pl_base.specs.declared.area.Area.{Area}
use Rattle.pl_disk.specs.Disk.{View, Looks}
use Rattle.pl_frames.specs.Cause.{HasCause}
use Rattle.pl_frames.specs.declared.fail.FrameFail.{FrameFail}
use Rattle.pl_frames.specs.declared.fail.FrameFail.TheVariants as frames
use Rattle.pl_exec.specs.pl_journal.Journal.{AllApply}
use Rattle.pl_exec.specs.pl_journal.Operation.{apply_all, empty}
use Rattle.pl_keeper.specs.Batches.{Stored}
use Rattle.pl_keeper.specs.Store.{IsReading, IsStore, DamagedAt, stored}
use Rattle.pl_keeper.specs.declared.batch.Batch.{Batch}
use Rattle.pl_keeper.specs.declared.head.Head.{Head}
use Rattle.pl_undo.specs.Database.{Database}
use Rattle.pl_exec.specs.pl_world.Opening.{opens}
use Rattle.pl_session.specs.Halts.{start_fail_of}
use Rattle.pl_session.specs.Starts.{HasStartCause}
use Rattle.pl_session.specs.Steps.{Reaches}
use Rattle.pl_session.specs.declared.halt.StartFail.{StartFail}
use Rattle.pl_port.proofs.Opens.{leads_on}
use Rattle.pl_session.proofs.Opens.{apply_batches-stopped, stops_at}
use Rattle.pl_session.proofs.Begins.{form_damaged, none_applies, rises_since}

-- one batch more: it applies, it doesn't, or one before it didn't
pub reaches_more : (list : List Stored) (batch : Batch) (old new : Database) → Reaches list old None → AllApply true new (apply_all batch.ops.items old) → Reaches (list ++ stored batch ∷ []) new None
reaches_more list batch old new is done = leads_on list batch.at batch.ops.items old new is done

pub reaches_no_more : (list : List Stored) (batch : Batch) (old new : Database) → Reaches list old None → AllApply false new (apply_all batch.ops.items old) → Reaches (list ++ stored batch ∷ []) new (Some batch.at)
reaches_no_more list batch old new is none = stops_at list batch.at batch.ops.items old is none

pub still_stopped : (list : List Stored) (batch : Batch) (old : Database) (at : ℕ) → Reaches list old (Some at) → Reaches (list ++ stored batch ∷ []) old (Some at)
still_stopped list batch old at is = apply_batches-stopped list (stored batch ∷ []) empty at is

-- what is known while a store is read
pub record Folded (v : View) (reader : Head) (now : Database) (stopped : Option ℕ) : Type 0 where
  pub list : List Stored
  pub reading : IsReading v reader list
  pub reaches : Reaches list now stopped

-- ---- why it fails

frames_failed : (a m d : View) → Looks a m → Looks m d → (fail : FrameFail) → HasCause (DamagedAt m) m d fail → HasStartCause a d (start_fail_of fail)
frames_failed a m d first looks frames.Fault cause = rises_since a.disk_faults m.disk_faults d.disk_faults first.continues.disk_faults looks.continues.disk_faults cause
frames_failed a m d first looks (frames.Damaged area at) cause = λ told.
    ap opens (sym (first.images told).seen) ∙ form_damaged m.seen (record { area = area; at = at }) (cause (first.continues.told told))
frames_failed a m d first looks frames.Memory cause = tt

pub read_failed : {T : Type 0} (a m d : View) → Looks a m → Looks m d → (fail : FrameFail) (r : Result T StartFail) → IsErrAnd r (λ x. x ≡ start_fail_of fail) → HasCause (DamagedAt m) m d fail → IfErr r (HasStartCause a d)
read_failed a m d first looks fail (Ok x) is cause = tt
read_failed a m d first looks fail (Err e) is cause = subst (λ (x : StartFail). HasStartCause a d x) (sym is) (frames_failed a m d first looks fail cause)

-- the store was read to its end, and a batch of it doesn't apply
pub stopped_at : (a d : View) → a.told → Looks a d → (keeper : Head) (list : List Stored) (now : Database) (area : Area) (at : ℕ) → IsStore d keeper list → Reaches list now (Some at) → area ≡ keeper.area → opens a.seen ≡ Err (record { area = area; at = at })
stopped_at a d told looks keeper list now area at store leads is = ap opens (sym (looks.images told).seen) ∙ none_applies d.seen keeper.area list area at store.has.batches (is, leads)
