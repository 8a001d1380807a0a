-- From the batches of a store to the database that it opens to, and when a session is ready.
use Rattle.std.proofs.Common.{◌≡◌, ◌++◌, ◌∷◌, ℕ, List, [], Option, Some, None, Result, Ok, Err, ap, ◌∙◌}
use Rattle.pl_base.specs.Image.{Image}
use Rattle.pl_base.specs.declared.operation.Op.{Op}
use Rattle.pl_disk.specs.Disk.{View, Continues, Keeps}
use Rattle.pl_keeper.specs.Batches.{Damage, Log, Stored, batches}
use Rattle.pl_keeper.specs.declared.head.Head.{Head}
use Rattle.pl_undo.specs.Database.{Database}
use Rattle.pl_exec.specs.pl_world.Opening.{apply_batches, opened_by, opens}
use Rattle.pl_exec.specs.pl_journal.Operation.{apply_all, empty}
use Rattle.pl_port.proofs.Opens.{after, apply_batches-append, stores_open, stores_still}
use Rattle.pl_port.specs.Ports.{Fits}
use Rattle.pl_session.specs.State.{database_in, IsReady}
use Rattle.pl_session.specs.declared.state.SessionState.{SessionState}
use Rattle.pl_transactions.specs.State.{Stands}

-- a batch that doesn't apply is the first also where others come behind it
pub apply_batches-stopped : (xs ys : List Stored) (db : Database) (at : ℕ) → apply_batches xs db ≡ Err at → apply_batches (xs ++ ys) db ≡ Err at
apply_batches-stopped [] ys db at is = absurd (cc)
apply_batches-stopped (stored ∷ xs) ys db at is =
    (elim (apply_all stored.1 db) as (λ (o : Option Database). after stored xs o ≡ Err at → after stored (xs ++ ys) o ≡ Err at)
    [ None ↦ λ h. h | Some next ↦ λ h. apply_batches-stopped xs ys next at h ]) is

-- one batch more that doesn't apply
pub stops_at : (list : List Stored) (at : ℕ) (ops : List Op) (db : Database) → apply_batches list empty ≡ Ok db → apply_all ops db ≡ None → apply_batches (list ++ (at, ops) ∷ []) empty ≡ Err at
stops_at list at ops db leads none = apply_batches-append list ((at, ops) ∷ []) empty db leads ∙ ap (λ (o : Option Database). after (at, ops) [] o) none

-- files of the same batches open alike
pub opens_alike : (c d : Image) → batches c ≡ batches d → opens c ≡ opens d
unfolding opens
opens_alike c d same = ap (λ (r : Result Log Damage). opened_by r) same

-- ---- sessions

-- a session over a store of its database
pub ready_by : (v : View) (state : SessionState) → state.failed ≡ None → Stands state.transaction state.engine → Fits v state.keeper (database_in state) → IsReady v state
ready_by v state is_open stands fits = record {
  is_open = is_open;
  attached = fits.attached;
  stands = stands;
  opens_to = λ told c left. stores_open v state.keeper (database_in state) (fits.store told) c left;
  store = fits.store;
}

pub ready_fits : (v : View) (state : SessionState) → IsReady v state → Fits v state.keeper (database_in state)
ready_fits v state ready = record { attached = ready.attached; store = ready.store }

-- a store stays where the files stay
pub fits_still : (a d : View) (keeper : Head) (db : Database) → Continues a d → (a.told → Keeps a d) → Fits a keeper db → Fits d keeper db
fits_still a d keeper db on keeps fits = record {
  attached = on.is_attached fits.attached;
  store = λ told. let before = on.told_before told in stores_still a d keeper db (keeps before) (fits.store before);
}
