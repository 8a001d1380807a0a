-- The answers of the calls that open a store.
use Rattle.std.proofs.Common.{◌≡◌, inl, inr, ⊎_elim, ℕ, List, [], ◌∷◌, ◌++◌, take, drop, get_or, false, Option, Some, None, Result, Ok, refl, sym, ◌∙◌, ap, subst, arith, append_assoc}
use Rattle.pl_base.specs.Image.{Image}
use Rattle.pl_base.specs.declared.area.Area.{Area}
use Rattle.pl_base.specs.declared.area.Area.TheVariants.{A, B}
use Rattle.pl_disk.specs.Disk.{View, Calls, After, Only, IsLawful, Looks, Settled, Untouched, Writes}
use Rattle.pl_disk.specs.declared.device.Failed.{Failed}
use Rattle.pl_disk.specs.Lent.{writes_weaker, writes_on, looked_writes, after_writes, goes_on, run_weaker, settled_since, from_call}
use Rattle.pl_frames.specs.Format.{is_open}
use Rattle.pl_frames.specs.Header.{Shut, Laid, Leaves, MayClose, MayLay, MayOpen}
use Rattle.pl_frames.specs.Lent.{shut_closed, not_one_closed}
use Rattle.pl_keeper.specs.Batches.{Damage, counting, batches}
use Rattle.pl_keeper.specs.Reading.{IsFirst, KeepsBatches, Opened}
use Rattle.pl_keeper.specs.Lent.{none_stored}
use Rattle.pl_keeper.specs.Store.{HasSame, IsUsed, ReadTo, Recovering, Recovered, first_head}
use Rattle.pl_keeper.specs.declared.head.Head.{Head}
use Rattle.pl_keeper.proofs.Along.{none_read}
use Rattle.pl_keeper.proofs.Opens.{alone, both_closed, none_open, no_batch, laid_generation, laid_open}

-- two closed files, of which area B is this one
pub record IsEmpty (b : List ℕ) (c : Image) : Type 0 where
  pub batches : batches c ≡ Ok (record { area = A; list = [] })
  pub area_b : c.b ≡ b

closed_both : (b : List ℕ) (c : Image) → is_open b ≡ false → is_open c.a ≡ false → c.b ≡ b → IsEmpty b c
closed_both b c closed_b closed_a same = record { batches = none_stored c (both_closed c closed_a (ap is_open same ∙ closed_b)); area_b = same }

pub shut_laying : (d c : List ℕ) → take 1 c ≡ take 1 d → Shut d → is_open c ≡ false
shut_laying d [] is was = refl
shut_laying d (x ∷ c) is was = not_one_closed x c (λ one. was.shut (sym (ap (λ (l : List ℕ). get_or l 0 0) (is ∙ ap (λ (l : List ℕ). take 1 l) was.split)) ∙ one))

-- the three calls of a new store, beside a closed area B
module _ (b : List ℕ) where
  pub closes : (a d : View) → (a.told → is_open b ≡ false) → (a.told → (c : Image) → a.may_leave c → (is_open c.a ≡ false) × (c.b ≡ b)) → Writes a d (After (MayClose A) a.may_leave) → Writes a d (IsEmpty b)
  closes a d closed_b closed run = writes_weaker a d _ (IsEmpty b) run (λ told c is.
      let was = closed told is.0 is.1 in
      closed_both b c (closed_b told) (⊎_elim (λ same. ap is_open same ∙ was.0) (λ now. now) is.2.change) (is.2.rest ∙ was.1))

  pub lays : (a d : View) → (a.told → is_open b ≡ false) → (a.told → Leaves A Shut a) → (a.told → Leaves B (λ f. f ≡ b) a) → Writes a d (After (MayLay A) a.may_leave) → Writes a d (IsEmpty b)
  lays a d closed_b shut beside run = writes_weaker a d _ (IsEmpty b) run (λ told c is.
      closed_both b c (closed_b told) (shut_laying is.0.a c.a is.2.gate (shut told is.0 is.1)) (is.2.rest ∙ beside told is.0 is.1))

  opened : (d c : Image) → is_open b ≡ false → Laid 0 d.a → c.a ≡ 1 ∷ drop 1 d.a → c.b ≡ b → IsFirst (first_head A 0) c
  opened d c closed_b laid is same = let has = laid_generation 0 d.a c.a (omega arith) laid is in record {
    counts = alone A c 0 has (ap is_open same ∙ closed_b);
    generation = has;
    first = refl;
  }

  pub opens : (a d : View) → (a.told → is_open b ≡ false) → (a.told → Leaves A (λ f. Shut f × Laid 0 f) a) → (a.told → Leaves B (λ f. f ≡ b) a) → Writes a d (After (MayOpen A) a.may_leave) → Writes a d (IsEmpty b)
  opens a d closed_b laid beside run = writes_weaker a d _ (IsEmpty b) run (λ told c is.
      let same = is.2.rest ∙ beside told is.0 is.1 in
      ⊎_elim (λ shut. closed_both b c (closed_b told) (shut_closed c.a shut) same)
      (λ now. let was = (laid told is.0 is.1).1 in record { batches = no_batch 0 A c (laid_open 0 is.0.a c.a was now) (opened is.0 c (closed_b told) was now same).counts; area_b = same }) is.2.change)

  pub new_first : (a d : View) → is_open b ≡ false → IsLawful a → IsLawful d → Leaves A (λ f. Shut f × Laid 0 f) a → Leaves B (λ f. f ≡ b) d → Leaves A (λ f. f ≡ 1 ∷ drop 1 a.seen.a) d → IsFirst (first_head A 0) d.seen
  new_first a d closed_b lawful lawful' laid beside is = opened a.seen d.seen closed_b (laid a.seen lawful.reads).1 (is d.seen lawful'.reads) (beside d.seen lawful'.reads)

  -- area B stays, from a settled store on
  pub still_beside : (a d : View) → IsLawful a → IsLawful d → a.told → (Leaves B (λ f. f ≡ b) a) → Writes a d (IsEmpty b) → Leaves B (λ f. f ≡ b) d
  still_beside a d lawful lawful' told beside run =
      after_writes a d (λ c. c.b ≡ b) lawful lawful' told (writes_weaker a d _ (λ c. c.b ≡ b) run (λ t c is. is.area_b)) beside

  pub then_empty : (a m d : View) → Writes a m (IsEmpty b) → Writes m d (IsEmpty b) → Writes a d (IsEmpty b)
  then_empty a m d first second = writes_on a m d _ _ (IsEmpty b) first second (λ told c is. is) (λ told c is. is)

settled_closed : (a : View) → Only a.seen a.may_leave → is_open a.seen.a ≡ false → (c : Image) → a.may_leave c → (is_open c.a ≡ false) × (c.b ≡ a.seen.b)
settled_closed a only closed_a c left = let same = only c left in (ap (λ (i : Image). is_open i.a) same ∙ closed_a, ap (λ (i : Image). i.b) same)

-- the runs up to the end of each of the three
pub first_call : (a m : View) → (a.told → Only a.seen a.may_leave) → (a.told → is_open a.seen.a ≡ false) → (a.told → is_open a.seen.b ≡ false) → Writes a m (After (MayClose A) a.may_leave) → Writes a m (IsEmpty a.seen.b)
first_call a m only closed_a closed_b run = closes a.seen.b a m closed_b (λ told. settled_closed a (only told) (closed_a told)) run

pub beside_all : (a m : View) → (a.told → IsLawful a) → (m.told → IsLawful m) → (a.told → Only a.seen a.may_leave) → Writes a m (IsEmpty a.seen.b) → m.told → Leaves B (λ f. f ≡ a.seen.b) m
beside_all a m lawful lawful' only run told =
    let before = run.moments.continues.told_before told in
    still_beside a.seen.b a m (lawful before) (lawful' told) before (λ c left. ap (λ (i : Image). i.b) (only before c left)) run

pub second_call : (a m n : View) → (a.told → IsLawful a) → (m.told → IsLawful m) → (a.told → Only a.seen a.may_leave) → (a.told → is_open a.seen.b ≡ false) → Writes a m (IsEmpty a.seen.b)
    → (a.told → Leaves A Shut m) → Writes m n (After (MayLay A) m.may_leave) → Writes a n (IsEmpty a.seen.b)
second_call a m n lawful lawful' only closed_b first shut run =
    let before = first.moments.continues.told_before in
    then_empty a.seen.b a m n first (lays a.seen.b m n (λ t. closed_b (before t)) (λ t. shut (before t)) (beside_all a m lawful lawful' only first) run)

pub third_call : (a m d : View) → (a.told → IsLawful a) → (m.told → IsLawful m) → (a.told → Only a.seen a.may_leave) → (a.told → is_open a.seen.b ≡ false) → Writes a m (IsEmpty a.seen.b)
    → (a.told → Leaves A (λ f. Shut f × Laid 0 f) m) → Writes m d (After (MayOpen A) m.may_leave) → Writes a d (IsEmpty a.seen.b)
third_call a m d lawful lawful' only closed_b first laid run =
    let before = first.moments.continues.told_before in
    then_empty a.seen.b a m d first (opens a.seen.b m d (λ t. closed_b (before t)) (λ t. laid (before t)) (beside_all a m lawful lawful' only first) run)

pub from_empty : (a d : View) → (a.told → counting a.seen ≡ Ok None) → Writes a d (IsEmpty a.seen.b) → Writes a d (KeepsBatches a)
from_empty a d closed run = writes_weaker a d _ (KeepsBatches a) run (λ told c is. (is.batches ∙ sym (none_stored a.seen (closed told)), is.area_b))

-- where no area counts, both are closed
pub closed_a : (v : View) → (v.told → counting v.seen ≡ Ok None) → v.told → is_open v.seen.a ≡ false
closed_a v closed told = (none_open v.seen (closed told)).0

pub closed_b : (v : View) → (v.told → counting v.seen ≡ Ok None) → v.told → is_open v.seen.b ≡ false
closed_b v closed told = (none_open v.seen (closed told)).1

pub new_laid : (a d : View) → IsLawful a → Leaves A (λ f. Shut f × Laid 0 f) a → Leaves A (λ f. f ≡ 1 ∷ drop 1 a.seen.a) d → Leaves A (Laid 0) d
new_laid a d lawful laid is c here = laid_open 0 a.seen.a c.a (laid a.seen lawful.reads).1 (is c here)

-- a settled store that is only read
pub opening_looks : (a d : View) → (a.told → Only a.seen a.may_leave) → Looks a d → Writes a d (KeepsBatches a)
opening_looks a d only looks = writes_weaker a d _ (KeepsBatches a) (looked_writes a d looks) (λ told c is. (ap batches (only told c is), ap (λ (i : Image). i.b) (only told c is)))

pub looks_then_new : (a m d : View) → (a.told → Only a.seen a.may_leave) → Looks a m → Writes m d (KeepsBatches m) → Writes a d (KeepsBatches a)
looks_then_new a m d only looks run = writes_on a m d _ _ (KeepsBatches a) (opening_looks a m only looks) run (λ told c is. is)
    (λ told c is. let seen = (looks.images told).seen in (is.0 ∙ ap batches seen, is.1 ∙ ap (λ (i : Image). i.b) seen))

pub still_only : (a m : View) → Looks a m → (a.told → Only a.seen a.may_leave) → m.told → Only m.seen m.may_leave
still_only a m looks only told c left =
    let before = looks.continues.told_before told in
    only before c ((looks.images before).crash c left) ∙ sym (looks.images before).seen

-- what was opened: a store that counts already, of which nothing was read, or a new one
pub opened_looks : (a d : View) (head : Head) → a.told → (a.told → Only a.seen a.may_leave) → Looks a d → IsFirst head a.seen → Opened a d head
opened_looks a d head told only looks is =
    let seen = (looks.images told).seen in
    record {
      same = ap batches seen;
      reading = record { settled = still_only a d looks only (looks.continues.told told); read = subst (λ (i : Image). ReadTo [] head i) (sym seen) (none_read head a.seen is) };
      new_area = λ none. absurd (some_none head.area (sym is.counts ∙ none));
    }
  where
    some_none : (x : Area) → (let r : Result (Option Area) Damage = Ok (Some x) in r) ≡ Ok None → ⊥
    some_none x h = cc

pub opened_new : (a m d : View) → a.told → IsLawful m → IsLawful d → Only m.seen m.may_leave → m.seen ≡ a.seen → Writes m d (KeepsBatches m) → Only d.seen d.may_leave → IsFirst (first_head A 0) d.seen → Leaves A (Laid 0) d → m.told
    → Opened a d (first_head A 0)
opened_new a m d told lawful lawful' was seen run only is laid now = record {
  same = (after_writes m d (KeepsBatches m) lawful lawful' now run (λ c left. let same = was c left in (ap batches same, ap (λ (i : Image). i.b) same)) d.seen lawful'.reads).0 ∙ ap batches seen;
  reading = record { settled = only; read = none_read (first_head A 0) d.seen is };
  new_area = λ none. laid;
}

-- the run from the sync on
pub settled : (a b d : View) → IsLawful b → b.told → b.printed ≡ a.printed → b.seen ≡ a.seen → b.synced ≡ a.synced ++ b.moment ∷ [] → Only a.seen b.may_leave → Writes b d (KeepsBatches b) → Settled a d (HasSame a)
settled a b d lawful told printed seen first only run =
    settled_since a b d (HasSame a) lawful told first
    (run_weaker b d _ (HasSame a) run.moments (λ t p c is. (is.0 ∙ printed, is.1.0 ∙ ap batches seen)))
    (λ c left. (printed, ap batches (only c left)))

pub same_b : (a b d : View) → IsLawful b → IsLawful d → b.told → b.seen ≡ a.seen → Only a.seen b.may_leave → Writes b d (KeepsBatches b) → d.seen.b ≡ a.seen.b
same_b a b d lawful lawful' told seen only run =
    (after_writes b d (KeepsBatches b) lawful lawful' told run (λ c left. let same = only c left ∙ sym seen in (ap batches same, ap (λ (i : Image). i.b) same)) d.seen lawful'.reads).1
    ∙ ap (λ (i : Image). i.b) seen

-- a recover: its sync, and what opens the store
module _ {T : Type 0} (a m d : View) (result : Result T Failed) (call : Calls a m result) (seen : a.told → m.seen ≡ a.seen) where
  synced_run : (a.told → (c : Image) → m.may_leave c → a.may_leave c) → Writes a m a.may_leave
  synced_run crash = record {
    moments = run_weaker a m _ (λ p c. (p ≡ a.printed) × a.may_leave c) (from_call a m result call) (λ told p c is. (is.0, crash told c is.1));
    printed = call.printed;
    say_faults = call.say_faults;
  }

  pub recovers : (a.told → IsLawful a) → (a.told → (c : Image) → m.may_leave c → a.may_leave c) → Writes m d (KeepsBatches m) → Writes a d (Recovering a)
  recovers lawful crash run = writes_on a m d a.may_leave (KeepsBatches m) (Recovering a) (synced_run crash) run
      (λ told c is. record { batches = inl is; area_b = (c, is, refl) })
      (λ told c is. record { batches = inr (is.0 ∙ ap batches (seen told)); area_b = (a.seen, (lawful told).reads, is.1 ∙ ap (λ (i : Image). i.b) (seen told)) })

  pub recovered : (head : Head) → a.told → m.synced ≡ a.synced ++ m.moment ∷ [] → ((more : List ℕ) × (d.synced ≡ m.synced ++ more)) → Opened m d head → Recovered a d head
  recovered head told first later opened = record {
    same = opened.same ∙ ap batches (seen told);
    reading = opened.reading;
    synced = (m.moment, later.0, later.1 ∙ ap (λ (l : List ℕ). l ++ later.0) first ∙ append_assoc a.synced (m.moment ∷ []) later.0);
    new_area = λ none. opened.new_area (ap counting (seen told) ∙ none);
  }

  -- the files are left alone where the store is only read
  pub left_alone : (a.told → (c : Image) → m.may_leave c → a.may_leave c) → a.told → (m.told → IsUsed m.seen → Looks m d) → IsUsed a.seen → Untouched a d
  left_alone crash told looks used =
      let now = call.continues.told told in
      let look = looks now (λ none. used (sym (ap counting (seen told)) ∙ none)) in
      record {
        seen = (look.images now).seen ∙ seen told;
        now = λ c left. crash told c ((look.images now).crash c left);
        time = goes_on a m d (λ p c. (p ≡ a.printed) × m.may_leave c) (λ p c. (p ≡ m.printed) × m.may_leave c) (λ p c. a.may_leave c) (call.time told) (look.time now) (λ p c is. crash told c is.1) (λ p c is. crash told c is.1);
      }
