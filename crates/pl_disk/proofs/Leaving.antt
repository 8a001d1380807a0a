-- What is left by a pick is one of the images that a crash may leave.
use Rattle.std.proofs.Common.{◌≡◌, inl, inr, ℕ, Bool, true, false, List, [], ◌∷◌, length, refl, sym, ◌∙◌, ap, subst, nat_le, if◌then◌else◌}
use Rattle.std.proofs.lemmas.List.{length-replicate}
use Rattle.std.specs.Prelude.{replicate}
use Rattle.pl_base.specs.Image.{Image}
use Rattle.pl_base.specs.declared.area.Area.TheVariants.{A, B}
use Rattle.pl_disk.proofs.Filled.{fill_more, fill_nothing}
use Rattle.pl_disk.specs.Lawful.{left_before, left_written, left_synced}
use Rattle.pl_disk.specs.Left.{IsFilled}
use Rattle.pl_disk.specs.MemoryHosts.{LeftAfter, first_image, notes_of, state_after}
use Rattle.pl_disk.specs.Picks.{PickedImages, notes_until, picked, picked_all, left_by}
use Rattle.pl_disk.specs.Replay.{State, put_in, changed, replay, start, IsImage, Now, Since}
use Rattle.pl_disk.specs.declared.memory.host.MemoryHost.{MemoryHost}
use Rattle.pl_disk.specs.declared.memory.image_after.Pick.{Pick}
use Rattle.pl_disk.specs.declared.memory.image_after.Pick.TheVariants.{Old, New, Fill}
use Rattle.pl_disk.specs.declared.memory.note.Change.{Change}
use Rattle.pl_disk.specs.declared.memory.note.Change.TheVariants.{Wrote, Synced, Said}
use Rattle.pl_disk.specs.declared.memory.note.Note.{Note}

abbrev both : State → Image → PickedImages
both s left = record { seen = s.seen; left = left }

seen_step : (pick : Pick) (s : State) (left : Image) (change : Change) → (picked pick (both s left) change).seen ≡ (changed s change).seen
seen_step pick s left (Wrote A at bytes) = refl
seen_step pick s left (Wrote B at bytes) = refl
seen_step pick s left Synced = refl
seen_step pick s left (Said text) = refl

-- what each change keeps of the state and the files that are left holds after all of them
along : (pick : Pick) (P : State → Image → Type 0) → ((s : State) (left : Image) (change : Change) → P s left → P (changed s change) (picked pick (both s left) change).left)
    → (s : State) (left : Image) (notes : List Note) → P s left → P (replay s notes) (picked_all pick (both s left) notes).left
along pick P step s left [] is = is
along pick P step s left (note ∷ notes) is =
    let next = picked pick (both s left) note.change in
    subst (λ (i : Image). P (replay (changed s note.change) notes) (picked_all pick (record { seen = i; left = next.left }) notes).left) (sym (seen_step pick s left note.change))
    (along pick P step (changed s note.change) next.left notes (step s left note.change is))

possible_step : (pick : Pick) (s : State) (left : Image) (change : Change) → IsImage s left → IsImage (changed s change) (picked pick (both s left) change).left
possible_step Old s left (Wrote A at bytes) is = (left_before s.synced.a left.a s.written_a at (length bytes.items) is.0, is.1)
possible_step Old s left (Wrote B at bytes) is = (is.0, left_before s.synced.b left.b s.written_b at (length bytes.items) is.1)
possible_step New s left (Wrote A at bytes) is = (left_written s.synced.a left.a bytes.items s.written_a at (length bytes.items) refl is.0, is.1)
possible_step New s left (Wrote B at bytes) is = (is.0, left_written s.synced.b left.b bytes.items s.written_b at (length bytes.items) refl is.1)
possible_step (Fill byte) s left (Wrote A at bytes) is = (left_written s.synced.a left.a (replicate (length bytes.items) byte) s.written_a at (length bytes.items) (length-replicate (length bytes.items) byte) is.0, is.1)
possible_step (Fill byte) s left (Wrote B at bytes) is = (is.0, left_written s.synced.b left.b (replicate (length bytes.items) byte) s.written_b at (length bytes.items) (length-replicate (length bytes.items) byte) is.1)
possible_step pick s left Synced is = (left_synced s.seen.a, left_synced s.seen.b)
possible_step pick s left (Said text) is = is

old_step : (s : State) (left : Image) (change : Change) → left ≡ s.synced → (picked Old (both s left) change).left ≡ (changed s change).synced
old_step s left (Wrote A at bytes) is = is
old_step s left (Wrote B at bytes) is = is
old_step s left Synced is = refl
old_step s left (Said text) is = is

new_step : (s : State) (left : Image) (change : Change) → left ≡ s.seen → (picked New (both s left) change).left ≡ (changed s change).seen
new_step s left (Wrote A at bytes) is = ap (λ (i : Image). put_in A at bytes.items i) is
new_step s left (Wrote B at bytes) is = ap (λ (i : Image). put_in B at bytes.items i) is
new_step s left Synced is = refl
new_step s left (Said text) is = is

abbrev Filled : ℕ → State → Image → Type 0
Filled byte s c = IsFilled byte s.written_a s.seen.a c.a × IsFilled byte s.written_b s.seen.b c.b

fill_step : (byte : ℕ) (s : State) (left : Image) (change : Change) → Filled byte s left → Filled byte (changed s change) (picked (Fill byte) (both s left) change).left
fill_step byte s left (Wrote A at bytes) is = (fill_more byte at bytes.items s.seen.a left.a s.written_a is.0, is.1)
fill_step byte s left (Wrote B at bytes) is = (is.0, fill_more byte at bytes.items s.seen.b left.b s.written_b is.1)
fill_step byte s left Synced is = (fill_nothing byte s.seen.a, fill_nothing byte s.seen.b)
fill_step byte s left (Said text) is = is

-- the state after some of the notes is one of the moments of all of them
here_or_later : (s : State) (note : Note) (notes rest : List Note) (p : List ℕ) (c : Image) (b : Bool) → Now (replay s (if b then note ∷ rest else [])) p c
    → (Now (replay (changed s note.change) rest) p c → Since (changed s note.change) notes 0 p c) → Since s (note ∷ notes) 0 p c
here_or_later s note notes rest p c true now later = inr (inr (later now))
here_or_later s note notes rest p c false now later = inl now

a_moment : (s : State) (call : ℕ) (notes : List Note) (p : List ℕ) (c : Image) → Now (replay s (notes_until call notes)) p c → Since s notes 0 p c
a_moment s call [] p c now = now
a_moment s call (note ∷ notes) p c now =
    here_or_later s note notes (notes_until call notes) p c (nat_le note.call call) now (λ next. a_moment (changed s note.change) call notes p c next)

pub leaves : (h : MemoryHost) (call : ℕ) (pick : Pick) (left : Image) → left ≡ left_by pick (first_image h) (notes_until call (notes_of h)) → LeftAfter h call pick left
leaves h call pick left is =
    let first = start (first_image h) in
    let notes = notes_until call (notes_of h) in
    let fresh : IsImage first first.seen = (left_synced first.seen.a, left_synced first.seen.b) in
    let possible : IsImage (state_after h call) left = subst (λ c. IsImage (state_after h call) c) (sym is) (along pick IsImage (possible_step pick) first first.seen notes fresh) in
    let filled : (byte : ℕ) → pick ≡ Fill byte → Filled byte (state_after h call) left = λ byte fill.
    subst (λ c. Filled byte (state_after h call) c) (sym (is ∙ ap (λ (k : Pick). left_by k (first_image h) notes) fill))
    (along (Fill byte) (Filled byte) (fill_step byte) first first.seen notes (fill_nothing byte first.seen.a, fill_nothing byte first.seen.b)) in
    record {
      fill_a = λ byte fill. (filled byte fill).0;
      fill_b = λ byte fill. (filled byte fill).1;
      old = λ old. is ∙ ap (λ (k : Pick). left_by k (first_image h) notes) old ∙ along Old (λ s c. c ≡ s.synced) old_step first first.seen notes refl;
      new = λ new. is ∙ ap (λ (k : Pick). left_by k (first_image h) notes) new ∙ along New (λ s c. c ≡ s.seen) new_step first first.seen notes refl;
      may_leave = possible;
      a_moment = a_moment first call (notes_of h) (state_after h call).printed left (refl, possible);
    }
