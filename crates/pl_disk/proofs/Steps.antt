-- What the steps of a call do to what is known of a host.
use Rattle.std.proofs.Common.{◌≡◌, ◌⊎◌, inl, inr, ◌≤◌, ℕ, ◌+◌, ◌-◌, List, ◌++◌, length, drop, refl, sym, ◌∙◌, ap, subst, arith, Result, Ok, Err, IsErr, OnOk, OnErr}
use Rattle.std.proofs.lemmas.List.{drop-drop}
use Rattle.std.specs.declared.alloc.AllocError.{AllocError}
use Rattle.pl_base.specs.Image.{Image, file}
use Rattle.pl_base.specs.declared.area.Area.{Area}
use Rattle.pl_disk.specs.Attached.{AreAttached}
use Rattle.pl_disk.specs.Disk.{View, Calls, Says, Rises, Follows, Torn, TornAt, IsPrefix}
use Rattle.pl_disk.specs.MemoryHosts.{host_view, KeepsRest, KeepsFiles, KeepsPrinted, Puts, Prints}
use Rattle.pl_disk.specs.Replay.{image_of, view_of, replay, start, syncs, IsImage}
use Rattle.pl_disk.specs.Tally.{raised}
use Rattle.pl_disk.specs.declared.device.Failed.{Failed}
use Rattle.pl_disk.specs.declared.memory.counts.Counts.{Counts}
use Rattle.pl_disk.specs.declared.memory.files.Files.{Files}
use Rattle.pl_disk.specs.declared.memory.host.MemoryHost.{MemoryHost}
use Rattle.pl_disk.specs.declared.memory.note.Note.{Note}
use Rattle.pl_disk.proofs.Replayed.{missed, said_nothing, wrote, no_sync, torn_wrote, said}

-- a write of fewer bytes is one that a crash cuts
wider : (at m n : ℕ) (old new : List ℕ) → m ≤ n → Torn at m old new → Torn at n old new
wider at m n old new le torn = record {
  before = torn.before;
  after = (let is : at + m + (n - m) ≡ at + n = omega (arith, le) in
      sym (drop-drop (n - m) (at + m) new ∙ ap (λ (k : ℕ). drop k new) is) ∙ ap (λ (l : List ℕ). drop (n - m) l) torn.after ∙ drop-drop (n - m) (at + m) old ∙ ap (λ (k : ℕ). drop k old) is);
  no_shorter = torn.no_shorter;
  no_longer = omega (arith, torn.no_longer, le);
}

torn_nothing : (area : Area) (at size : ℕ) (c : Image) → TornAt area at size c c
torn_nothing area at size c = record { torn = record { before = refl; after = refl; no_shorter = omega arith; no_longer = omega arith }; rest = refl }

-- a call that may have done its step or not
pub by_result : {P Q : Type 0} (r : Result (Unit {0}) AllocError) → OnOk r P → OnErr r Q → P ⊎ Q
by_result (Ok x) did not_done = inl did
by_result (Err e) did not_done = inr not_done

-- what is known of a host before its step, with other counts of failures
abbrev pub before : MemoryHost → ℕ → ℕ → View
before m df sf = view_of (AreAttached m.attached) (image_of m.first) (image_of m.files) m.printed.items m.notes.items df sf

module _ (m n : MemoryHost) (k : Counts) (rest : KeepsRest m n) (counts : m.counts ≡ k) where
  same_counts : n.counts ≡ k
  same_counts = rest.counts ∙ counts

  module _ (call : ℕ) (area : Area) (at : ℕ) (bytes : List ℕ) (same_printed : n.printed ≡ m.printed) (is : Puts call area at bytes m n) where
    put_view : host_view n ≡ view_of (AreAttached m.attached) (image_of m.first) (image_of n.files) m.printed.items n.notes.items k.disk_faults k.say_faults
    put_view = λ i. view_of (AreAttached (rest.attached i)) (image_of (rest.first i)) (image_of n.files) (same_printed i).items n.notes.items (same_counts i).disk_faults (same_counts i).say_faults

    pub put_calls : {T : Type 0} (df sf : ℕ) (result : Result T Failed) → df ≤ k.disk_faults → sf ≡ k.say_faults → (IsErr result → Rises df k.disk_faults) → Calls (before m df sf) (host_view n) result
    put_calls df sf result disk say cause =
        subst (λ v. Calls (before m df sf) v result) (sym put_view)
        (wrote (image_of m.first) (image_of m.files) m.printed.items m.notes.items n.notes.items call area at is.copy bytes is.same is.noted m.kept (AreAttached m.attached) (image_of n.files) df sf k.disk_faults k.say_faults result disk say cause)

    pub put_synced : (host_view n).synced ≡ (host_view m).synced
    put_synced = no_sync (image_of m.first) (image_of m.files) m.printed.items m.notes.items n.notes.items call area at is.copy bytes is.same is.noted m.kept

    pub put_crash : (size : ℕ) → length bytes ≤ size → at ≤ length (file area (image_of m.files)) → Follows (TornAt area at size) (host_view m).may_leave (host_view n).may_leave
    put_crash size fits near c left =
        let torn = torn_wrote (image_of m.first) (image_of m.files) m.printed.items m.notes.items n.notes.items call area at is.copy bytes is.same is.noted m.kept (length bytes) refl near c
        (subst (λ (f : Files). IsImage (replay (start (image_of f)) n.notes.items) c) rest.first left) in
        (torn.0, torn.1, record { torn = wider at (length bytes) size (file area torn.0) (file area c) fits torn.2.torn; rest = torn.2.rest })

  module _ (same_printed : n.printed ≡ m.printed) (is : KeepsFiles m n) where
    no_put : host_view n ≡ before m k.disk_faults k.say_faults
    no_put = λ i. view_of (AreAttached (rest.attached i)) (image_of (rest.first i)) (is.files i) (same_printed i).items (is.notes i) (same_counts i).disk_faults (same_counts i).say_faults

    pub no_put_calls : {T : Type 0} (df sf : ℕ) (result : Result T Failed) → df ≤ k.disk_faults → sf ≡ k.say_faults → (IsErr result → Rises df k.disk_faults) → Calls (before m df sf) (host_view n) result
    no_put_calls df sf result disk say cause =
        subst (λ v. Calls (before m df sf) v result) (sym no_put) (missed (image_of m.first) (image_of m.files) m.printed.items m.notes.items (AreAttached m.attached) df sf k.disk_faults k.say_faults result disk say cause)

    pub no_put_synced : (host_view n).synced ≡ (host_view m).synced
    no_put_synced = ap (λ (l : List Note). syncs 0 l) is.notes

    pub no_put_crash : (area : Area) (at size : ℕ) → Follows (TornAt area at size) (host_view m).may_leave (host_view n).may_leave
    no_put_crash area at size c left =
        (c, subst (λ (f : Files). IsImage (replay (start (image_of f)) m.notes.items) c) rest.first (subst (λ (l : List Note). IsImage (replay (start (image_of n.first)) l) c) is.notes left), torn_nothing area at size c)

  module _ (text : List ℕ) (same_files : n.files ≡ m.files) (call : ℕ) (is : Prints call text m n) where
    print_view : host_view n ≡ view_of (AreAttached m.attached) (image_of m.first) (image_of m.files) n.printed.items n.notes.items k.disk_faults k.say_faults
    print_view = λ i. view_of (AreAttached (rest.attached i)) (image_of (rest.first i)) (image_of (same_files i)) n.printed.items n.notes.items (same_counts i).disk_faults (same_counts i).say_faults

    pub print_says : {T : Type 0} (whole : List ℕ) (df sf : ℕ) (result : Result T Failed) → df ≡ k.disk_faults → sf ≤ k.say_faults → (IsErr result → Rises sf k.say_faults) → IsPrefix text whole
        → OnOk result (n.printed.items ≡ m.printed.items ++ whole) → Says whole (before m df sf) (host_view n) result
    print_says whole df sf result disk say cause front all =
        subst (λ v. Says whole (before m df sf) v result) (sym print_view)
        (said (image_of m.first) (image_of m.files) m.printed.items m.notes.items n.notes.items call is.copy text is.same is.noted m.kept whole (AreAttached m.attached) n.printed.items df sf k.disk_faults k.say_faults result is.printed front disk say cause all)

  module _ (same_files : n.files ≡ m.files) (is : KeepsPrinted m n) where
    no_print : host_view n ≡ before m k.disk_faults k.say_faults
    no_print = λ i. view_of (AreAttached (rest.attached i)) (image_of (rest.first i)) (image_of (same_files i)) (is.printed i).items (is.notes i) (same_counts i).disk_faults (same_counts i).say_faults

    pub no_print_says : {T : Type 0} (text : List ℕ) (df sf : ℕ) (result : Result T Failed) → IsErr result → df ≡ k.disk_faults → sf ≤ k.say_faults → k.say_faults ≡ raised sf → Says text (before m df sf) (host_view n) result
    no_print_says text df sf result err disk say more =
        subst (λ v. Says text (before m df sf) v result) (sym no_print)
        (said_nothing (image_of m.first) (image_of m.files) m.printed.items m.notes.items (AreAttached m.attached) text df sf k.disk_faults k.say_faults result err disk say more)
