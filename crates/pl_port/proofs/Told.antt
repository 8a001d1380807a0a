-- What is printed and committed over a store.
use Rattle.std.proofs.Common.{◌≡◌, ◌∙◌, ◌++◌, ⊎_elim, ℕ, List, [], ◌∷◌, Result, ap, inl, inr, refl, subst, sym}
use Rattle.std.proofs.lemmas.List.{append-nil}
use Rattle.pl_disk.specs.Disk.{Says, View, Writes}
use Rattle.pl_disk.specs.Lent.{from_say, run_weaker}
use Rattle.pl_disk.specs.declared.device.Failed.{Failed}
use Rattle.pl_engine.specs.pl_journal.Journal.{LeadsTo}
use Rattle.pl_keeper.specs.Store.{CommittedPayload, CommittingPayload}
use Rattle.pl_keeper.specs.declared.head.Head.{Head}
use Rattle.pl_meaning.specs.Covered.{AlongFrom}
use Rattle.pl_meaning.specs.Trace.{Committed, Said}
use Rattle.pl_port.proofs.Opens.{applied, leads_on, nothing_applied, opens_by, spelled_by, stores_on, stores_open, stores_still}
use Rattle.pl_port.specs.PortLaws.{nothing_along}
use Rattle.pl_port.specs.Ports.{Fits, Takes, Tries}
use Rattle.pl_port.specs.Stores.{AllOpen, RunsAlong}
use Rattle.pl_undo.specs.Database.{Database}

-- ---- lines

line_along : {T : Type 0} (a d : View) (line : List ℕ) (db : Database) (result : Result T Failed) → AllOpen a db → Says line a d result → RunsAlong a d (Said line ∷ []) db
line_along a d line db result opens_to says = run_weaker a d _ (AlongFrom a.printed (Said line ∷ []) db) (from_say line a d result says)
    (λ told p c is. (is.0.0, is.0.2, inl (is.0.1, opens_to told c is.1)))

all_open : (v : View) (keeper : Head) (db : Database) → Fits v keeper db → AllOpen v db
all_open v keeper db fits told c left = stores_open v keeper db (fits.store told) c left

module _ {T : Type 0} (a d : View) (keeper : Head) (line : List ℕ) (db : Database) (result : Result T Failed) (fits : Fits a keeper db) (says : Says line a d result) where
  pub said_fits : Fits d keeper db
  said_fits = record {
    attached = says.continues.is_attached fits.attached;
    store = λ told. let before = says.continues.told_before told in stores_still a d keeper db (says.images before) (fits.store before);
  }

  pub said_whole : (a.told → d.printed ≡ a.printed ++ line) → Takes (Said line ∷ []) db a d keeper keeper
  said_whole whole = record {
    moments = line_along a d line db result (all_open a keeper db fits) says;
    printed = λ told. whole told ∙ ap (λ (l : List ℕ). a.printed ++ l) (sym (append-nil line));
    store = λ before. said_fits;
  }

  pub said_in_part : Tries (Said line) db a d
  said_in_part = record {
    moments = line_along a d line db result (all_open a keeper db fits) says;
    printed = λ now is. absurd cc;
  }

-- ---- commits

module _ (a b : View) (old : Head) (payload : List ℕ) (db next : Database) (fits : Fits a old db) (leads : LeadsTo payload db next) where
  -- the payload is empty: the store holds the database already
  pub still_fits : payload ≡ [] → Fits a old next
  still_fits none = subst (λ (d : Database). Fits a old d) (sym (nothing_applied payload db next none (applied payload db next leads))) fits

  pub nothing_committed : payload ≡ [] → Takes (Committed next ∷ []) db a a old old
  nothing_committed none = record {
    moments = nothing_along a (Committed next ∷ []) db;
    printed = λ told. sym (append-nil a.printed);
    store = λ before. still_fits none;
  }

  module _ (writes : Writes a b (CommittingPayload a old payload)) where
    along : RunsAlong a b (Committed next ∷ []) db
    along = run_weaker a b _ (AlongFrom a.printed (Committed next ∷ []) db) writes.moments
        (λ told p c is. let s = fits.store told in let it = spelled_by payload db next (applied payload db next leads) in (
          [],
          is.0 ∙ sym (append-nil a.printed),
          ⊎_elim (λ before. inl (refl, opens_by c old.area s.list db before s.leads)) (λ now. inr (refl, opens_by c old.area (s.list ++ (old.end, it.0) ∷ []) next now (leads_on s.list old.end it.0 db next s.leads it.2))) ((is.1 it.0 it.1).batches s.list s.store),
        ))

    pub committed_fits : (new : Head) → (a.told → CommittedPayload a b old new payload) → Fits b new next
    committed_fits new committed = record {
      attached = writes.moments.continues.is_attached fits.attached;
      store = λ told. let before = writes.moments.continues.told_before told in stores_on a b old new payload db next (committed before) (fits.store before) (applied payload db next leads);
    }

    pub committed_whole : (new : Head) → (a.told → CommittedPayload a b old new payload) → Takes (Committed next ∷ []) db a b old new
    committed_whole new committed = record {
      moments = along;
      printed = λ told. writes.printed told ∙ sym (append-nil a.printed);
      store = λ before. committed_fits new committed;
    }

    pub committed_in_part : Tries (Committed next) db a b
    committed_in_part = record { moments = along; printed = λ now is told. writes.printed told }
