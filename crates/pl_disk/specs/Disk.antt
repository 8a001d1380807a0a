-- What the calls of a disk do to its two files, and what a crash may leave of them.
--
-- The model of a crash, which has to be believed: a write is sure only after the next sync that succeeds. Until then a crash
-- may leave any bytes in its range (the old ones, the new ones, or neither), and where the range passes the end of the file
-- any length from the old one to the end of the range. Bytes outside of the ranges written since the last sync stay. A write
-- that fails may have done any part of this, and a sync that fails makes nothing sure. `TornAt` and `Only` below say this.
--
-- Contracts relate the `View` before a call to the one after it. Nothing is said of when a crash comes: `may_leave` has each
-- outcome of a crash at this moment, and `since` those of the moments from an earlier one on.
use Rattle.std.specs.Prelude.{◌<◌, ◌≡◌, ◌⊎◌, ℕ, ◌∷◌, ◌+◌, ◌-◌, ◌^◌, ◌≤◌, max, List, [], ◌++◌, length, take, drop, Result, IsErr, OnOk}
use Rattle.pl_base.specs.Image.{Image, file, other}
use Rattle.pl_base.specs.declared.area.Area.{Area}
use Rattle.pl_disk.specs.declared.device.Failed.{Failed}

-- What is known of a host between two calls: its files and the names that it was given, what it printed, what a crash may leave
-- or might have left, and how often it failed.
pub record View : Type 1 where
  -- these names, in order, may be all that `attach` was given so far: a host that can't tell two
  -- lists of names apart says so of both
  pub attached : List (List ℕ) → Type 0
  -- a fact: that a store is attached, so that its files may be read and written. `attach` gives it
  pub is_attached : Type 0
  -- a fact: that the contents and moments are told. Of a host in memory it holds. Of one over real files it doesn't, and the
  -- clauses that begin with it say nothing of that host
  pub told : Type 0
  -- the files as reads give them
  pub seen : Image
  -- the pairs of files that a crash at this moment may leave
  pub may_leave : Image → Type 0
  -- what was printed so far
  pub printed : List ℕ
  -- this moment, a number that never falls
  pub moment : ℕ
  -- since t p c: at some moment from t until now, p was all that was printed and a crash might have left c. The moments within
  -- a call count too
  pub since : ℕ → List ℕ → Image → Type 0
  -- the moments right after each sync that succeeded, the earliest first
  pub synced : List ℕ
  -- how often calls of the disk failed, and how often printing did
  pub disk_faults : ℕ
  pub say_faults : ℕ

-- Of each host whose contents are told.
pub record IsLawful (v : View) : Type 0 where
  -- a crash may leave the files as they read
  pub reads : v.may_leave v.seen
  -- this moment is one of those since t
  pub counts_now : (t : ℕ) (c : Image) → t ≤ v.moment → v.may_leave c → v.since t v.printed c
  -- and the only one since itself
  pub only_now : (p : List ℕ) (c : Image) → v.since v.moment p c → (p ≡ v.printed) × v.may_leave c

-- A view from before `attach`, as if this name were already there. A store from before is let go.
abbrev pub with_attached : List ℕ → View → View
with_attached name before = record before {
  attached = λ names. (earlier : List (List ℕ)) × before.attached earlier × (names ≡ earlier ++ name ∷ []);
  is_attached = ⊥;
}

-- Time goes on: what was true at some moment since t stays so, and each new pair of a text and files has P.
pub record Elapses (old new : View) (P : List ℕ → Image → Type 0) : Type 0 where
  pub later : old.moment ≤ new.moment
  pub nothing_else : (t : ℕ) (p : List ℕ) (c : Image) → t ≤ old.moment
      → new.since t p c → old.since t p c ⊎ P p c
  pub keeps : (t : ℕ) (p : List ℕ) (c : Image) → t ≤ old.moment → old.since t p c → new.since t p c

-- A count rose. One that stands at the greatest u64 stays there: no finite count can always rise.
abbrev pub Rises : ℕ → ℕ → Type 0
Rises old new = old < 2 ^ 64 - 1 → old < new

-- What no call changes: the names that were attached, that a store is, and whether the contents are
-- told. And no count falls.
pub record Continues (old new : View) : Type 0 where
  pub attached : (names : List (List ℕ)) → old.attached names → new.attached names
  pub is_attached : old.is_attached → new.is_attached
  pub told : old.told → new.told
  pub told_before : new.told → old.told
  pub disk_faults : old.disk_faults ≤ new.disk_faults
  pub say_faults : old.say_faults ≤ new.say_faults

-- Each call of a disk, whatever it does to the files: it prints nothing, and it fails only where the disk's count rose. At each
-- moment within it a crash leaves what one after it may leave.
pub record Calls {T : Type 0} (old new : View) (result : Result T Failed) : Type 0 where
  pub continues : Continues old new
  pub say_faults : old.say_faults ≡ new.say_faults
  pub cause : IsErr result → Rises old.disk_faults new.disk_faults
  pub printed : old.told → new.printed ≡ old.printed
  pub synced : old.told → (more : List ℕ) × (new.synced ≡ old.synced ++ more)
  pub time : old.told → Elapses old new (λ p c. (p ≡ old.printed) × new.may_leave c)

-- The files, and what a crash may leave of them, stay.
pub record Keeps (old new : View) : Type 0 where
  pub seen : new.seen ≡ old.seen
  pub crash : (c : Image) → new.may_leave c → old.may_leave c
  pub stays : (c : Image) → old.may_leave c → new.may_leave c
  pub synced : new.synced ≡ old.synced

-- The files were left alone: they read as before, and what a crash may leave now, or might have left at a moment since, one might
-- have left before.
pub record Untouched (old new : View) : Type 0 where
  pub seen : new.seen ≡ old.seen
  pub now : (c : Image) → new.may_leave c → old.may_leave c
  pub time : Elapses old new (λ p c. old.may_leave c)

-- The bytes of new are those of old, but from the offset `at` on these.
abbrev pub Holds : List ℕ → ℕ → List ℕ → List ℕ → Type 0
Holds old at bytes new = new ≡ take at old ++ bytes ++ drop (at + length bytes) old

-- A write, as later reads give it: over what was there and past the end, the other file untouched.
pub record Written (area : Area) (at : ℕ) (bytes : List ℕ) (old new : Image) : Type 0 where
  pub holds : Holds (file area old) at bytes (file area new)
  pub rest : file (other area) new ≡ file (other area) old

-- One file where a crash comes before the next sync, and n bytes were written at `at`: the same outside of the range, any bytes
-- in it, and the old length or any up to the end of the range.
pub record Torn (at n : ℕ) (old new : List ℕ) : Type 0 where
  pub before : take at new ≡ take at old
  pub after : drop (at + n) new ≡ drop (at + n) old
  pub no_shorter : length old ≤ length new
  pub no_longer : length new ≤ max (length old) (at + n)

-- The two files likewise: the other one untouched.
pub record TornAt (area : Area) (at n : ℕ) (old new : Image) : Type 0 where
  pub torn : Torn at n (file area old) (file area new)
  pub rest : file (other area) new ≡ file (other area) old

-- c comes by the step from an outcome of a crash before it.
abbrev pub After : (Image → Image → Type 0) → (Image → Type 0) → Image → Type 0
After step old c = (d : Image) × old d × step d c

-- Each outcome of a crash now comes by the step from one before: so writes without a sync between them add up.
abbrev pub Follows : (Image → Image → Type 0) → (Image → Type 0) → (Image → Type 0) → Type 0
Follows step old new = (c : Image) → new c → After step old c

-- A crash leaves this and nothing else: nothing is unsettled.
abbrev pub Only : Image → (Image → Type 0) → Type 0
Only image outcomes = (c : Image) → outcomes c → c ≡ image

-- xs is a front of ys.
abbrev pub IsPrefix : List ℕ → List ℕ → Type 0
IsPrefix xs ys = (rest : List ℕ) × (xs ++ rest ≡ ys)

-- Printing a text: the files stay, at each moment a front of the text is printed, and after Ok all of it.
pub record Says {T : Type 0} (text : List ℕ) (old new : View) (result : Result T Failed) : Type 0 where
  pub continues : Continues old new
  pub disk_faults : old.disk_faults ≡ new.disk_faults
  pub cause : IsErr result → Rises old.say_faults new.say_faults
  pub whole : old.told → OnOk result (new.printed ≡ old.printed ++ text)
  pub front : old.told → (said : List ℕ) × IsPrefix said text × (new.printed ≡ old.printed ++ said)
  pub images : old.told → Keeps old new
  pub time : old.told → Elapses old new
      (λ p c. ((said : List ℕ) × IsPrefix said text × (p ≡ old.printed ++ said)) × old.may_leave c)

-- What a run of calls does: at each moment that it adds the printed text and what a crash may leave have P. Upper layers say what they do in this form, each with a P in its own words.
pub record Runs (old new : View) (P : List ℕ → Image → Type 0) : Type 0 where
  pub continues : Continues old new
  pub synced : old.told → (more : List ℕ) × (new.synced ≡ old.synced ++ more)
  pub time : old.told → Elapses old new P

-- Of a host that tells nothing of its files, of its names or of what it printed: only its counts are known.
abbrev pub untold : ℕ → View
untold faults = record {
  attached = λ names. Unit {0};
  is_attached = Unit {0};
  told = ⊥;
  seen = record { a = []; b = [] };
  may_leave = λ c. ⊥;
  printed = [];
  moment = 0;
  since = λ t p c. ⊥;
  synced = [];
  disk_faults = faults;
  say_faults = 0;
}

-- What a run of calls does that only looks: it prints nothing and the files stay.
pub record Looks (old new : View) : Type 0 where
  pub continues : Continues old new
  pub say_faults : old.say_faults ≡ new.say_faults
  pub printed : old.told → new.printed ≡ old.printed
  pub images : old.told → Keeps old new
  pub time : old.told → Elapses old new (λ p c. (p ≡ old.printed) × old.may_leave c)

-- What a run of the disk's calls does: it prints nothing, and at each moment that it adds the files that a crash may leave have P.
pub record Writes (old new : View) (P : Image → Type 0) : Type 0 where
  pub moments : Runs old new (λ p c. (p ≡ old.printed) × P c)
  pub printed : old.told → new.printed ≡ old.printed
  pub say_faults : old.say_faults ≡ new.say_faults

-- At each moment since the first sync of this run that succeeded, the printed text and what a crash may leave have P.
pub record Settled (old new : View) (P : List ℕ → Image → Type 0) : Type 0 where
  pub each : (t : ℕ) (later : List ℕ) → new.synced ≡ old.synced ++ t ∷ later
      → (t ≤ new.moment) × ((p : List ℕ) (c : Image) → new.since t p c → P p c)
