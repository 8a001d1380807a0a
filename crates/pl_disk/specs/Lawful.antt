-- Proofs, and no definition: a host in memory is lawful. The files as they read are among those that a crash may leave, and its
-- moments are those of its notes. They stand here since the law of an impl can cite nothing else.
use Rattle.std.proofs.Common.{◌<◌, ◌≡◌, ◌⊎◌, inl, inr, ⊎_elim, ℕ, zero, suc, ◌+◌, ◌-◌, ◌≤◌, max, List, [], ◌∷◌, ◌++◌, length, get_or, take, drop, refl, sym, ◌∙◌, ap, subst, arith, length-append, length-take, length-drop, get_or-take, get_or-drop}
use Rattle.std.proofs.lemmas.List.{get_or-append_right, get_or_append_left, take_all, drop_all, append-nil}
use Rattle.pl_base.specs.Image.{Image, file}
use Rattle.pl_base.specs.declared.area.Area.TheVariants.{A, B}
use Rattle.pl_disk.specs.Disk.{IsLawful}
use Rattle.pl_disk.specs.Left.{IsLeft}
use Rattle.pl_disk.specs.Replay.{State, put, changed, replay, IsImage, Now, Since, start, IsKept, view_of}
use Rattle.pl_disk.specs.declared.memory.note.Change.{Change}
use Rattle.pl_disk.specs.declared.memory.note.Change.TheVariants.{Wrote, Synced, Said}
use Rattle.pl_disk.specs.declared.memory.note.Note.{Note}

-- a place is in the range, or before or behind it
pub place : (at n i : ℕ) → ((at ≤ i) × (i < at + n)) ⊎ ((i < at) ⊎ (at + n ≤ i))
place at n i = grind arith

-- a put past the end goes right behind it
put_far : (old bytes : List ℕ) (at : ℕ) → length old < at → put old at bytes ≡ old ++ bytes
put_far old bytes at far =
    (λ i. take_all at old (omega (arith, far)) i ++ bytes ++ drop_all (at + length bytes) old (omega (arith, far)) i) ∙ append-nil (old ++ bytes)

put_bounds : (old bytes : List ℕ) (at : ℕ) → (length old ≤ length (put old at bytes)) × (length (put old at bytes) ≤ max (length old) (at + length bytes))
put_bounds old bytes at =
    let front = length-append (take at old ++ bytes) (drop (at + length bytes) old) in
    let parts = length-append (take at old) bytes in
    (omega (arith, front, parts, length-take at old, length-drop (at + length bytes) old), omega (arith, front, parts, length-take at old, length-drop (at + length bytes) old))

pub put_elsewhere : (old bytes : List ℕ) (at i : ℕ) → i < length old → (i < at) ⊎ (at + length bytes ≤ i) → get_or (put old at bytes) i 0 ≡ get_or old i 0
put_elsewhere old bytes at i below out =
    let front = length-take at old in
    let both = length-append (take at old) bytes in
    ⊎_elim (λ low. get_or_append_left (take at old ++ bytes) (drop (at + length bytes) old) 0 i (omega (arith, both, front, low, below)) ∙ get_or_append_left (take at old) bytes 0 i (omega (arith, front, low, below)) ∙ get_or-take at old i 0 low)
    (λ high.
    let here : length (take at old ++ bytes) ≡ at + length bytes = omega (arith, both, front, high, below) in
    get_or-append_right (take at old ++ bytes) (drop (at + length bytes) old) (at + length bytes) i 0 here high ∙ get_or-drop (at + length bytes) old (i - (at + length bytes)) 0
    ∙ (let is : at + length bytes + (i - (at + length bytes)) ≡ i = omega (arith, high) in ap (λ (k : ℕ). get_or old k 0) is)) out

-- after a write, what was left before it is still left, also with the bytes or others of that range put in
pub left_before : (synced c : List ℕ) (ranges : List (ℕ × ℕ)) (at n : ℕ) → IsLeft synced ranges c → IsLeft synced ((at, n) ∷ ranges) c
left_before synced c ranges at n left = record {
  no_shorter = left.no_shorter;
  no_longer = omega (arith, left.no_longer);
  same = λ i below unwritten. left.same i below (λ was. unwritten (inr was));
}

pub left_written : (synced old bytes : List ℕ) (ranges : List (ℕ × ℕ)) (at n : ℕ) → length bytes ≡ n → IsLeft synced ranges old → IsLeft synced ((at, n) ∷ ranges) (put old at bytes)
left_written synced old bytes ranges at n long left =
    let bounds = put_bounds old bytes at in
    record {
      no_shorter = omega (arith, left.no_shorter, bounds.0);
      no_longer = omega (arith, left.no_longer, bounds.1, long);
      same = λ i below unwritten.
          ⊎_elim (λ is_in. absurd (unwritten (inl is_in))) (λ out. put_elsewhere old bytes at i (omega (arith, below, left.no_shorter)) (⊎_elim (λ low. inl low) (λ high. inr (omega (arith, high, long))) out) ∙ left.same i below (λ was. unwritten (inr was))) (place at n i);
    }

pub left_synced : (file : List ℕ) → IsLeft file [] file
left_synced file = record { no_shorter = omega arith; no_longer = omega arith; same = λ i below unwritten. refl }

-- the files as they read
seen_changed : (s : State) (change : Change) → IsImage s s.seen → IsImage (changed s change) (changed s change).seen
seen_changed s (Wrote A at bytes) left = (left_written s.synced.a s.seen.a bytes.items s.written_a at (length bytes.items) refl left.0, left.1)
seen_changed s (Wrote B at bytes) left = (left.0, left_written s.synced.b s.seen.b bytes.items s.written_b at (length bytes.items) refl left.1)
seen_changed s Synced left = (left_synced s.seen.a, left_synced s.seen.b)
seen_changed s (Said text) left = left

seen_after : (s : State) (notes : List Note) → IsImage s s.seen → IsImage (replay s notes) (replay s notes).seen
seen_after s [] left = left
seen_after s (note ∷ notes) left = seen_after (changed s note.change) notes (seen_changed s note.change left)

pub reads : (first : Image) (notes : List Note) → IsImage (replay (start first) notes) (replay (start first) notes).seen
reads first notes = seen_after (start first) notes (left_synced first.a, left_synced first.b)

-- the moments
counts_now : (s : State) (notes : List Note) (t : ℕ) (p : List ℕ) (c : Image) → t ≤ length notes → Now (replay s notes) p c → Since s notes t p c
counts_now s [] t p c le now = now
counts_now s (note ∷ notes) zero p c le now = inr (inr (counts_now (changed s note.change) notes zero p c (omega arith) now))
counts_now s (note ∷ notes) (suc t) p c le now = counts_now (changed s note.change) notes t p c (omega (arith, le)) now

only_now : (s : State) (notes : List Note) (p : List ℕ) (c : Image) → Since s notes (length notes) p c → Now (replay s notes) p c
only_now s [] p c since = since
only_now s (note ∷ notes) p c since = only_now (changed s note.change) notes p c since

pub lawful_of : (names : List (List ℕ) → Type 0) (first files : Image) (printed : List ℕ) (notes : List Note) (disk_faults say_faults : ℕ) → IsKept first files printed notes → IsLawful (view_of names first files printed notes disk_faults say_faults)
lawful_of names first files printed notes disk_faults say_faults kept = record {
  reads = subst (λ c. IsImage (replay (start first) notes) c) kept.seen_is (reads first notes);
  counts_now = λ t c le left. counts_now (start first) notes t printed c le (sym kept.printed_is, left);
  only_now = λ p c since. let now = only_now (start first) notes p c since in (now.0 ∙ kept.printed_is, now.1);
}
