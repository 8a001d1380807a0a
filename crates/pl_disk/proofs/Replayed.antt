-- One note more: what a call that noted a change did, and one that failed.
use Rattle.std.proofs.Common.{◌≡◌, ◌⊎◌, inl, inr, ⊎_elim, ℕ, zero, suc, ◌+◌, ◌≤◌, List, [], ◌∷◌, ◌++◌, length, refl, sym, ◌∙◌, ap, subst, arith, length-append, Result, IsErr, OnOk, Ok, Err, Vec, append_assoc}
use Rattle.std.specs.declared.alloc.Global.{Global}
use Rattle.std.proofs.lemmas.List.{append-nil, ext_get_or}
use Rattle.pl_base.specs.Image.{Image, file}
use Rattle.pl_base.specs.declared.area.Area.{Area}
use Rattle.pl_base.specs.declared.area.Area.TheVariants.{A, B}
use Rattle.pl_disk.specs.Disk.{Elapses, Calls, Continues, Says, Rises, After, TornAt, Torn, IsPrefix}
use Rattle.pl_disk.specs.Lawful.{reads}
use Rattle.pl_disk.specs.Left.{IsLeft}
use Rattle.pl_disk.specs.Replay.{State, put, put_in, with_file, changed, written, replay, IsImage, Now, During, Since, start, IsKept, view_of, sync_at, syncs}
use Rattle.pl_disk.specs.Tally.{raised}
use Rattle.pl_disk.specs.declared.device.Failed.{Failed}
use Rattle.pl_disk.specs.declared.memory.note.Change.TheVariants.{Wrote, Synced, Said}
use Rattle.pl_disk.specs.declared.memory.note.Note.{Note}
use Rattle.pl_disk.proofs.Torn.{torn_from}

pub replay-push : (s : State) (notes : List Note) (note : Note) → replay s (notes ++ note ∷ []) ≡ changed (replay s notes) note.change
replay-push s [] note = refl
replay-push s (x ∷ notes) note = replay-push (changed s x.change) notes note

-- the moments after one more note are those before it, those within its call, and the one after
pushed : (s : State) (notes : List Note) (note : Note) (t : ℕ) (p : List ℕ) (c : Image) → t ≤ length notes → Since s (notes ++ note ∷ []) t p c
    → Since s notes t p c ⊎ (During (replay s notes) note.change p c ⊎ Now (changed (replay s notes) note.change) p c)
pushed s [] note zero p c le since = since
pushed s [] note (suc t) p c le since = absurd (omega (arith, le))
pushed s (x ∷ notes) note zero p c le since = ⊎_elim (λ now. inl (inl now)) (λ rest. ⊎_elim (λ within. inl (inr (inl within))) (λ later. ⊎_elim (λ was. inl (inr (inr was))) inr (pushed (changed s x.change) notes note zero p c (omega arith) later)) rest) since
pushed s (x ∷ notes) note (suc t) p c le since = pushed (changed s x.change) notes note t p c (omega (arith, le)) since

pub kept_too : (s : State) (notes : List Note) (note : Note) (t : ℕ) (p : List ℕ) (c : Image) → t ≤ length notes → Since s notes t p c → Since s (notes ++ note ∷ []) t p c
kept_too s [] note zero p c le since = inl since
kept_too s [] note (suc t) p c le since = absurd (omega (arith, le))
kept_too s (x ∷ notes) note zero p c le since = ⊎_elim inl (λ rest. inr (⊎_elim inl (λ later. inr (kept_too (changed s x.change) notes note zero p c (omega arith) later)) rest)) since
kept_too s (x ∷ notes) note (suc t) p c le since = kept_too (changed s x.change) notes note t p c (omega (arith, le)) since

syncs-push : (n : ℕ) (notes : List Note) (note : Note) → syncs n (notes ++ note ∷ []) ≡ syncs n notes ++ sync_at (n + length notes + 1) note.change
syncs-push n [] note = append-nil (sync_at (n + 1) note.change) ∙ (let is : n + 1 ≡ n + 0 + 1 = omega arith in ap (λ (k : ℕ). sync_at k note.change) is)
syncs-push n (x ∷ notes) note =
    let is : n + 1 + length notes + 1 ≡ n + suc (length notes) + 1 = omega arith in
    ap (λ (l : List ℕ). sync_at (n + 1) x.change ++ l) (syncs-push (n + 1) notes note ∙ ap (λ (k : ℕ). syncs (n + 1) notes ++ sync_at k note.change) is)
    ∙ sym (append_assoc (sync_at (n + 1) x.change) (syncs (n + 1) notes) (sync_at (n + suc (length notes) + 1) note.change))

not_ok : {T : Type 0} (P : Type 0) (result : Result T Failed) → IsErr result → OnOk result P
not_ok P (Ok x) err = absurd (cc err)
not_ok P (Err e) err = tt

-- what no call changes, where the counts don't fall
kept_on : (names : List (List ℕ) → Type 0) (first files : Image) (printed : List ℕ) (notes : List Note) (files' : Image) (printed' : List ℕ) (later : List Note) (df sf df' sf' : ℕ) → df ≤ df' → sf ≤ sf'
    → Continues (view_of names first files printed notes df sf) (view_of names first files' printed' later df' sf')
kept_on names first files printed notes files' printed' later df sf df' sf' disk say = record { attached = λ l is. is; is_attached = λ is. is; told = λ t. t; told_before = λ t. t; disk_faults = disk; say_faults = say }

module _ (first files : Image) (printed : List ℕ) (notes : List Note) where
  abbrev state : State
  state = replay (start first) notes

  -- a call that failed, and one that only looked
  pub missed : {T : Type 0} (names : List (List ℕ) → Type 0) (df sf df' sf' : ℕ) (result : Result T Failed) → df ≤ df' → sf ≡ sf' → (IsErr result → Rises df df')
      → Calls (view_of names first files printed notes df sf) (view_of names first files printed notes df' sf') result
  missed names df sf df' sf' result le same cause = record {
    continues = kept_on names first files printed notes files printed notes df sf df' sf' le (omega (arith, same));
    say_faults = same;
    cause = cause;
    printed = λ t. refl;
    synced = λ t. ([], sym (append-nil (syncs 0 notes)));
    time = λ t. record { later = omega arith; nothing_else = λ t p c le since. inl since; keeps = λ t p c le since. since };
  }

  pub said_nothing : {T : Type 0} (names : List (List ℕ) → Type 0) (text : List ℕ) (df sf df' sf' : ℕ) (result : Result T Failed) → IsErr result → df ≡ df' → sf ≤ sf' → sf' ≡ raised sf
      → Says text (view_of names first files printed notes df sf) (view_of names first files printed notes df' sf') result
  said_nothing names text df sf df' sf' result err same le more = record {
    continues = kept_on names first files printed notes files printed notes df sf df' sf' (omega (arith, same)) le;
    disk_faults = same;
    cause = λ e. (λ below. omega (arith, more, below));
    whole = λ t. not_ok _ result err;
    front = λ t. ([], (text, refl), sym (append-nil printed));
    images = λ t. record { seen = refl; crash = λ c left. left; stays = λ c left. left; synced = refl };
    time = λ t. record { later = omega arith; nothing_else = λ t p c le since. inl since; keeps = λ t p c le since. since };
  }

  module _ (later : List Note) (note : Note) (is : later ≡ notes ++ note ∷ []) (kept : IsKept first files printed notes) where
    -- how it stands with the note
    pub stands : replay (start first) later ≡ changed state note.change
    stands = ap (λ (l : List Note). replay (start first) l) is ∙ replay-push (start first) notes note

    pub kept_noted : (files' : Image) (printed' : List ℕ) → (changed state note.change).seen ≡ files' → (changed state note.change).printed ≡ printed' → IsKept first files' printed' later
    kept_noted files' printed' seen_is printed_is = record {
      seen_is = ap (λ (s : State). s.seen) stands ∙ seen_is;
      printed_is = ap (λ (s : State). s.printed) stands ∙ printed_is;
    }

    pub image_now : (c : Image) → IsImage (replay (start first) later) c → IsImage (changed state note.change) c
    image_now c left = subst (λ s. IsImage s c) stands left

    pub image_before : (c : Image) → IsImage (changed state note.change) c → IsImage (replay (start first) later) c
    image_before c left = subst (λ s. IsImage s c) (sym stands) left

    pub synced_now : syncs 0 later ≡ syncs 0 notes ++ sync_at (0 + length notes + 1) note.change
    synced_now = ap (λ (l : List Note). syncs 0 l) is ∙ syncs-push 0 notes note

    pub elapses : (names : List (List ℕ) → Type 0) (files' : Image) (printed' : List ℕ) (df sf df' sf' : ℕ) (P : List ℕ → Image → Type 0)
        → ((p : List ℕ) (c : Image) → During state note.change p c → P p c) → ((p : List ℕ) (c : Image) → Now (changed state note.change) p c → P p c)
        → Elapses (view_of names first files printed notes df sf) (view_of names first files' printed' later df' sf') P
    elapses names files' printed' df sf df' sf' P within now = subst (λ (l : List Note). Elapses (view_of names first files printed notes df sf) (view_of names first files' printed' l df' sf') P) (sym is) (record {
      later = omega (arith, length-append notes (note ∷ []));
      nothing_else = λ t p c le since. ⊎_elim inl (λ new. inr (⊎_elim (within p c) (now p c) new)) (pushed (start first) notes note t p c le since);
      keeps = λ t p c le since. kept_too (start first) notes note t p c le since;
    })

    -- a call of the disk that noted something
    pub done : {T : Type 0} (names : List (List ℕ) → Type 0) (files' : Image) (df sf df' sf' : ℕ) (result : Result T Failed) → df ≤ df' → sf ≡ sf' → (IsErr result → Rises df df')
        → ((p : List ℕ) (c : Image) → During state note.change p c → ⊥) → (changed state note.change).printed ≡ state.printed
        → Calls (view_of names first files printed notes df sf) (view_of names first files' printed later df' sf') result
    done names files' df sf df' sf' result disk same_say cause none same = record {
      continues = kept_on names first files printed notes files' printed later df sf df' sf' disk (omega (arith, same_say));
      say_faults = same_say;
      cause = cause;
      printed = λ t. refl;
      synced = λ t. (sync_at (0 + length notes + 1) note.change, synced_now);
      time = λ t. elapses names files' printed df sf df' sf' _ (λ p c within. absurd (none p c within)) (λ p c now. (now.0 ∙ same ∙ kept.printed_is, image_before c now.1));
    }

only_synced : (file c : List ℕ) → IsLeft file [] c → c ≡ file
only_synced file c left = sym (ext_get_or 0 file c (omega (arith, left.no_shorter, left.no_longer)) (λ i below. sym (left.same i below (λ none. none))))

-- a sync
module _ (first files : Image) (printed : List ℕ) (notes later : List Note) (call : ℕ) (is : later ≡ notes ++ (record { call = call; change = Synced }) ∷ []) (kept : IsKept first files printed notes) where
  pub settles : (c : Image) → IsImage (replay (start first) later) c → c ≡ files
  settles c left =
      let now = image_now first files printed notes later (record { call = call; change = Synced }) is kept c left in
      let seen = (replay (start first) notes).seen in
      let same_a = only_synced seen.a c.a now.0 in
      let same_b = only_synced seen.b c.b now.1 in
      let same : c ≡ seen = λ i. record { a = same_a i; b = same_b i } in
      same ∙ kept.seen_is

  pub was_possible : (c : Image) → IsImage (replay (start first) later) c → IsImage (replay (start first) notes) c
  was_possible c left = subst (λ d. IsImage (replay (start first) notes) d) (kept.seen_is ∙ sym (settles c left)) (reads first notes)

  pub sync_noted : syncs 0 later ≡ syncs 0 notes ++ length later ∷ []
  sync_noted =
      let long : 0 + length notes + 1 ≡ length later = omega (arith, ap length is, length-append notes ((record { call = call; change = Synced }) ∷ [])) in
      synced_now first files printed notes later (record { call = call; change = Synced }) is kept ∙ ap (λ (k : ℕ). syncs 0 notes ++ k ∷ []) long

-- a write
writes : (area : Area) (at : ℕ) (bytes : List ℕ) (s : State) → (written area at bytes s).seen ≡ put_in area at bytes s.seen
writes A at bytes s = refl
writes B at bytes s = refl

prints_nothing : (area : Area) (at : ℕ) (bytes : List ℕ) (s : State) → (written area at bytes s).printed ≡ s.printed
prints_nothing A at bytes s = refl
prints_nothing B at bytes s = refl

torn : (area : Area) (at n : ℕ) (bytes : List ℕ) (s : State) (c : Image) → length bytes ≡ n → at ≤ length (file area s.seen) → IsImage s s.seen → IsImage (written area at bytes s) c → After (TornAt area at n) (λ d. IsImage s d) c
torn A at n bytes s c long near here left =
    let from = torn_from s.synced.a c.a s.written_a at (length bytes) (omega (arith, near, here.0.no_longer)) left.0 in
    (record { a = from.0; b = c.b }, (from.1, left.1), record { torn = subst (λ k. Torn at k from.0 c.a) long from.2; rest = refl })
torn B at n bytes s c long near here left =
    let from = torn_from s.synced.b c.b s.written_b at (length bytes) (omega (arith, near, here.1.no_longer)) left.1 in
    (record { a = c.a; b = from.0 }, (left.0, from.1), record { torn = subst (λ k. Torn at k from.0 c.b) long from.2; rest = refl })

module _ (first files : Image) (printed : List ℕ) (notes later : List Note) (call : ℕ) (area : Area) (at : ℕ) (copy : Vec ℕ Global) (bytes : List ℕ) (same : copy.items ≡ bytes)
    (is : later ≡ notes ++ (record { call = call; change = Wrote area at copy }) ∷ []) (kept : IsKept first files printed notes) where
  abbrev before : State
  before = replay (start first) notes

  abbrev noted : Note
  noted = record { call = call; change = Wrote area at copy }

  pub kept_wrote : (next : List ℕ) (files' : Image) → next ≡ put (file area files) at bytes → files' ≡ with_file area next files → IsKept first files' printed later
  kept_wrote next files' next_is files_is =
      let seen_is : (written area at copy.items before).seen ≡ files' =
      writes area at copy.items before ∙ (λ i. put_in area at (same i) (kept.seen_is i)) ∙ ap (λ (l : List ℕ). with_file area l files) (sym next_is) ∙ sym files_is in
      kept_noted first files printed notes later noted is kept files' printed seen_is (prints_nothing area at copy.items before ∙ kept.printed_is)

  pub torn_wrote : (n : ℕ) → length bytes ≡ n → at ≤ length (file area files) → (c : Image) → IsImage (replay (start first) later) c → After (TornAt area at n) (λ d. IsImage before d) c
  torn_wrote n long near c left =
      torn area at n copy.items before c (ap length same ∙ long) (subst (λ (f : Image). at ≤ length (file area f)) (sym kept.seen_is) near) (reads first notes)
      (image_now first files printed notes later noted is kept c left)

  pub wrote : {T : Type 0} (names : List (List ℕ) → Type 0) (files' : Image) (df sf df' sf' : ℕ) (result : Result T Failed) → df ≤ df' → sf ≡ sf' → (IsErr result → Rises df df')
      → Calls (view_of names first files printed notes df sf) (view_of names first files' printed later df' sf') result
  wrote names files' df sf df' sf' result disk same_say cause =
      done first files printed notes later noted is kept names files' df sf df' sf' result disk same_say cause (λ p c none. none) (prints_nothing area at copy.items before)

  pub no_sync : syncs 0 later ≡ syncs 0 notes
  no_sync = synced_now first files printed notes later noted is kept ∙ append-nil (syncs 0 notes)

-- a text
module _ (first files : Image) (printed : List ℕ) (notes later : List Note) (call : ℕ) (copy : Vec ℕ Global) (text : List ℕ) (same : copy.items ≡ text)
    (is : later ≡ notes ++ (record { call = call; change = Said copy }) ∷ []) (kept : IsKept first files printed notes) where
  abbrev so_far : State
  so_far = replay (start first) notes

  abbrev told_text : Note
  told_text = record { call = call; change = Said copy }

  pub kept_said : (new : List ℕ) → new ≡ printed ++ text → IsKept first files new later
  kept_said new is_new =
      kept_noted first files printed notes later told_text is kept files new kept.seen_is ((λ i. kept.printed_is i ++ same i) ∙ sym is_new)

  pub said : {T : Type 0} (whole : List ℕ) (names : List (List ℕ) → Type 0) (new : List ℕ) (df sf df' sf' : ℕ) (result : Result T Failed) → new ≡ printed ++ text → IsPrefix text whole → df ≡ df' → sf ≤ sf' → (IsErr result → Rises sf sf')
      → OnOk result (new ≡ printed ++ whole) → Says whole (view_of names first files printed notes df sf) (view_of names first files new later df' sf') result
  said whole names new df sf df' sf' result is_new front same_disk say cause all = record {
    continues = kept_on names first files printed notes files new later df sf df' sf' (omega (arith, same_disk)) say;
    disk_faults = same_disk;
    cause = cause;
    whole = λ t. all;
    front = λ t. (text, front, is_new);
    images = λ t. record { seen = refl; crash = λ c left. image_now first files printed notes later told_text is kept c left; stays = λ c left. image_before first files printed notes later told_text is kept c left; synced = synced_now first files printed notes later told_text is kept ∙ append-nil (syncs 0 notes) };
    time = λ t. elapses first files printed notes later told_text is kept names files new df sf df' sf' _
        (λ p c within. ((within.0.0, longer within.0.0 (within.0.1.0, within.0.1.1 ∙ same), within.0.2 ∙ ap (λ (l : List ℕ). l ++ within.0.0) kept.printed_is), within.1))
        (λ p c now. ((text, front, now.0 ∙ (λ i. kept.printed_is i ++ same i)), now.1));
  }
    where
      longer : (said : List ℕ) → IsPrefix said text → IsPrefix said whole
      longer said is_front = (is_front.0 ++ front.0, sym (append_assoc said is_front.0 front.0) ∙ ap (λ (l : List ℕ). l ++ front.0) is_front.1 ∙ front.1)

-- before the first call
pub nothing_pending : (first : Image) (notes : List Note) → notes ≡ [] → (c : Image) → IsImage (replay (start first) notes) c → c ≡ first
nothing_pending first notes none c left =
    let now = subst (λ (l : List Note). IsImage (replay (start first) l) c) none left in
    let same_a = only_synced first.a c.a now.0 in
    let same_b = only_synced first.b c.b now.1 in
    λ i. record { a = same_a i; b = same_b i }
