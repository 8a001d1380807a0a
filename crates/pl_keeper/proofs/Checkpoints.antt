-- The four calls of a checkpoint, beside an area that counts.
use Rattle.std.proofs.Common.{◌≡◌, ◌≢◌, ◌<◌, ◌-◌, ◌^◌, ◌==◌, ◌⊎◌, inl, inr, ⊎_elim, ℕ, ◌+◌, List, [], ◌∷◌, ◌++◌, length, take, drop, get_or, cond, nat_lt, Bool, false, true, Option, Some, Result, Ok, Err, refl, sym, ◌∙◌, ap, subst, arith, append_assoc, length-append}
use Rattle.std.proofs.lemmas.Bool.Decides.{nat_tests}
use Rattle.std.specs.List.{flat_map}
use Rattle.pl_base.specs.Image.{Image, file, other}
use Rattle.pl_base.specs.declared.area.Area.{Area}
use Rattle.pl_base.specs.declared.area.Area.TheVariants.{A, B}
use Rattle.pl_base.specs.declared.operation.Op.{Op}
use Rattle.pl_codec.specs.Reading.{operations_of}
use Rattle.pl_disk.specs.Disk.{View, After, IsLawful, Only, Writes}
use Rattle.pl_disk.specs.Lent.{after_writes, writes_weaker, writes_on}
use Rattle.pl_frames.specs.Format.{Frames, frame_bytes, found, header_bytes, is_open, frames_from}
use Rattle.pl_frames.specs.Frame.{MayAppend, Appended, EndsAt}
use Rattle.pl_frames.specs.Header.{Shut, Laid, Leaves, MayClose, MayLay, MayOpen}
use Rattle.pl_frames.specs.Lent.{frames_read, shut_closed}
use Rattle.pl_keeper.specs.Batches.{Damage, Stored, generation_in, greater, by_headers, counting, batches}
use Rattle.pl_keeper.specs.Checkpoint.{CheckpointingPayload, CheckpointedPayload, next_head}
use Rattle.pl_keeper.specs.Store.{Has, IsStore, behind, first_head}
use Rattle.pl_keeper.specs.declared.head.Head.{Head}
use Rattle.pl_keeper.proofs.Along.{base_behind}
use Rattle.pl_keeper.proofs.Opens.{alone, framed, header_generation, laid_frames, of_batches, same_counting}
use Rattle.pl_keeper.proofs.Starts.{shut_laying}

-- ---- which area counts

other_twice : (area : Area) → other (other area) ≡ area
other_twice A = refl
other_twice B = refl

greater_b : (n : ℕ) → greater (Some n) (Some (n + 1)) ≡ Ok (Some B)
greater_b n = by_tests (n == n + 1) (nat_lt n (n + 1)) (grind (arith, nat_tests)) (grind (arith, nat_tests))
  where
    by_tests : (e l : Bool) → e ≡ false → l ≡ true → (let r : Result (Option Area) Damage = cond e (Err (record { area = B; at = 9 })) (Ok (Some (cond l B A))) in r) ≡ Ok (Some B)
    by_tests false true is_e is_l = refl
    by_tests true l is_e is_l = absurd (cc)
    by_tests false false is_e is_l = absurd (cc)

greater_a : (n : ℕ) → greater (Some (n + 1)) (Some n) ≡ Ok (Some A)
greater_a n = by_tests (n + 1 == n) (nat_lt (n + 1) n) (grind (arith, nat_tests)) (grind (arith, nat_tests))
  where
    by_tests : (e l : Bool) → e ≡ false → l ≡ false → (let r : Result (Option Area) Damage = cond e (Err (record { area = B; at = 9 })) (Ok (Some (cond l B A))) in r) ≡ Ok (Some A)
    by_tests false false is_e is_l = refl
    by_tests true l is_e is_l = absurd (cc)
    by_tests false true is_e is_l = absurd (cc)

-- the other area is open with the next generation: it counts
next_counts : (area : Area) (c : Image) (generation : ℕ) → generation_in (file area c) ≡ Ok (Some generation) → generation_in (file (other area) c) ≡ Ok (Some (generation + 1)) → counting c ≡ Ok (Some (other area))
next_counts A c generation has next = (λ i. by_headers (has i) (next i)) ∙ greater_b generation
next_counts B c generation has next = (λ i. by_headers (next i) (has i)) ∙ greater_a generation

-- ---- the files while it runs

-- the area that counts is the same, and the other one is the same or closed
pub record IsKept (head : Head) (a : View) (c : Image) : Type 0 where
  pub same : file head.area c ≡ file head.area a.seen
  pub spare : (file (other head.area) c ≡ file (other head.area) a.seen) ⊎ (is_open (file (other head.area) c) ≡ false)

-- the area that counts is the same, and the other one holds the one frame and is open
pub record IsNext (head : Head) (a : View) (payload : List ℕ) (end : ℕ) (c : Image) : Type 0 where
  pub same : file head.area c ≡ file head.area a.seen
  pub frames : Frames (file (other head.area) c) (1 ∷ header_bytes (head.generation + 1)) (payload ∷ []) end

-- so the batches stay
kept_batches : (list : List Stored) (head : Head) (a : View) (c : Image) → Has list head a.seen → IsKept head a c → batches c ≡ Ok (record { area = head.area; list = list })
kept_batches list head a c has is = framed c head.area (Ok list) counts (ap (λ (f : List ℕ). frames_from operations_of (length f) f 17) is.same ∙ of_batches a.seen head.area list has.counts has.batches)
  where
    generation : generation_in (file head.area c) ≡ generation_in (file head.area a.seen)
    generation = ap generation_in is.same

    counts : counting c ≡ Ok (Some head.area)
    counts = ⊎_elim (λ same. same_counting head.area a.seen c generation same ∙ has.counts) (λ closed. alone head.area c head.generation (generation ∙ has.generation) closed) is.spare

-- or the one batch takes their place
next_has : (list : List Stored) (head : Head) (a : View) (c : Image) (ops : List Op) (payload : List ℕ) (end : ℕ) → Has list head a.seen → head.generation < 2 ^ 64 - 1 → end < 2 ^ 63 → operations_of payload ≡ Some ops → IsNext head a payload end c
    → Has ((17, ops) ∷ []) (next_head head end) c
next_has list head a c ops payload end has fits small spelled is =
    let spare = other head.area in
    let number = head.generation + 1 in
    let f = file spare c in
    let rest = is.frames.gate ∷ is.frames.rest in
    let behind = flat_map frame_bytes (payload ∷ []) ++ rest in
    let some : 0 < length behind = omega (arith, length-append (flat_map frame_bytes (payload ∷ [])) rest) in
    let split : f ≡ 1 ∷ (header_bytes number ++ behind) = is.frames.split ∙ append_assoc (1 ∷ header_bytes number) (flat_map frame_bytes (payload ∷ [])) rest in
    let generation = header_generation number f behind (omega (arith, fits)) some split in
    let counts = next_counts head.area c head.generation (ap generation_in is.same ∙ has.generation) generation in
    let sized : end ≡ 17 + 9 + length payload = omega (arith, is.frames.place, length-append (frame_bytes payload) []) in
    record {
      counts = counts;
      generation = generation;
      batches = framed c spare (Ok ((17, ops) ∷ [])) counts (frames_read operations_of f (1 ∷ header_bytes number) (payload ∷ []) end is.frames (omega (arith, small)) ∙ ap (λ (o : Option (List Op)). found 17 o (Ok [])) spelled);
      bytes = 1 ∷ header_bytes number;
      payloads = payload ∷ [];
      frames = is.frames;
      base = base_behind (first_head spare number) [] payload end refl refl sized;
    }

-- what each of its moments has
abbrev pub IsBetween : Head → View → List ℕ → Image → Type 0
IsBetween head a payload c = IsKept head a c ⊎ ((end : ℕ) × (end < 2 ^ 63) × IsNext head a payload end c)

pub checkpointing : (head : Head) (a : View) (payload : List ℕ) (c : Image) → head.generation < 2 ^ 64 - 1 → IsBetween head a payload c → CheckpointingPayload a head payload c
checkpointing head a payload c fits is ops spelled list store = ⊎_elim
    (λ kept. inl (kept_batches list head a c store.has kept))
    (λ next. inr (next_has list head a c ops payload next.0 store.has fits next.1 spelled next.2).batches) is

-- frames whose header begins with a gate that isn't 1 stand in a closed area
shut_frames : (f : List ℕ) (gate : ℕ) (head : List ℕ) (list : List (List ℕ)) (at : ℕ) → gate ≢ 1 → Frames f (gate ∷ head) list at → Shut f
shut_frames f gate head list at shut is = record { gate = gate; rest = head ++ flat_map frame_bytes list ++ is.gate ∷ is.rest; split = is.split; shut = shut }

laid_gate : (f : List ℕ) (generation : ℕ) → Shut f → (laid : Laid generation f) → laid.gate ≢ 1
laid_gate f generation shut laid one = shut.shut (ap (λ (l : List ℕ). get_or l 0 0) (sym shut.split ∙ laid.split) ∙ one)

-- ---- the four calls, each beside the area that counts

-- each crash leaves the area that counts as it is read now
abbrev pub AreaStays : Head → View → View → Type 0
AreaStays head a m = Leaves head.area (λ f. f ≡ file head.area a.seen) m

module _ (head : Head) (a : View) (payload : List ℕ) where
  abbrev spare : Area
  spare = other head.area

  abbrev Between : Image → Type 0
  Between = IsBetween head a payload

  beside : (d c : Image) → file head.area d ≡ file head.area a.seen → file (other spare) c ≡ file (other spare) d → file head.area c ≡ file head.area a.seen
  beside d c was rest = subst (λ (x : Area). file x c ≡ file x d) (other_twice head.area) rest ∙ was

  closed : (d c : Image) → file head.area d ≡ file head.area a.seen → file (other spare) c ≡ file (other spare) d → is_open (file spare c) ≡ false → Between c
  closed d c was rest shut = inl (record { same = beside d c was rest; spare = inr shut })

  -- the area that counts stays over a run
  stays : (m n : View) → IsLawful m → IsLawful n → m.told → AreaStays head a m → Writes m n Between → AreaStays head a n
  stays m n lawful lawful' told was run = after_writes m n (λ c. file head.area c ≡ file head.area a.seen) lawful lawful' told
      (writes_weaker m n Between (λ c. file head.area c ≡ file head.area a.seen) run (λ t c is. ⊎_elim (λ kept. kept.same) (λ next. next.2.same) is)) was

  pub close_run : (m : View) → (a.told → Only a.seen a.may_leave) → Writes a m (After (MayClose spare) a.may_leave) → Writes a m Between
  close_run m only run = writes_weaker a m _ Between run (λ told c is.
      let d = is.0 in
      let seen = only told d is.1 in
      inl (record {
        same = beside d c (ap (λ (i : Image). file head.area i) seen) is.2.rest;
        spare = ⊎_elim (λ same. inl (same ∙ ap (λ (i : Image). file spare i) seen)) (λ shut. inr shut) is.2.change;
      }))

  pub lay_run : (m n : View) → (m.told → AreaStays head a m) → (m.told → Leaves spare Shut m) → Writes m n (After (MayLay spare) m.may_leave) → Writes m n Between
  lay_run m n stay shut run = writes_weaker m n _ Between run (λ told c is.
      closed is.0 c (stay told is.0 is.1) is.2.rest (shut_laying (file spare is.0) (file spare c) is.2.gate (shut told is.0 is.1)))

  pub append_run : (n o : View) → (n.told → AreaStays head a n) → (n.told → Leaves spare (λ f. Shut f × Laid (head.generation + 1) f) n) → Writes n o (After (MayAppend spare 17 payload) n.may_leave) → Writes n o Between
  append_run n o stay laid run = writes_weaker n o _ Between run (λ told c is.
      let d = is.0 in
      let was = laid told d is.1 in
      let gate = laid_gate (file spare d) (head.generation + 1) was.0 was.1 in
      let header = header_bytes (head.generation + 1) in
      let shut : Shut (file spare c) = ⊎_elim (λ same. shut_frames (file spare c) was.1.gate header [] 17 gate same) (λ more. shut_frames (file spare c) was.1.gate header (payload ∷ []) (17 + 9 + length payload) gate more)
      (is.2.frames (was.1.gate ∷ header) [] (laid_frames (head.generation + 1) (file spare d) was.1)) in
      closed d c (stay told d is.1) is.2.rest (shut_closed (file spare c) shut))

  -- the area is written, and stands closed still
  pub record IsWritten (o : View) (end : ℕ) : Type 0 where
    pub settled : Only o.seen o.may_leave
    pub same : file head.area o.seen ≡ file head.area a.seen
    pub gate : ℕ
    pub shut : gate ≢ 1
    pub frames : Frames (file spare o.seen) (gate ∷ header_bytes (head.generation + 1)) (payload ∷ []) end

  pub written : (n o : View) (end : ℕ) → IsLawful n → AreaStays head a n → Leaves spare (λ f. Shut f × Laid (head.generation + 1) f) n → Appended spare 17 payload end n o → IsWritten o end
  written n o end lawful stay laid appended =
      let was = laid n.seen lawful.reads in
      let number = head.generation + 1 in
      record {
        settled = appended.durable;
        same = beside n.seen o.seen (stay n.seen lawful.reads) appended.joined.rest;
        gate = was.1.gate;
        shut = laid_gate (file spare n.seen) number was.0 was.1;
        frames = appended.joined.frames (was.1.gate ∷ header_bytes number) [] (laid_frames number (file spare n.seen) was.1);
      }

  pub written_shut : (o : View) (end : ℕ) → IsWritten o end → Leaves spare Shut o
  written_shut o end is c left = subst (λ (i : Image). Shut (file spare i)) (sym (is.settled c left)) (shut_frames (file spare o.seen) is.gate (header_bytes (head.generation + 1)) (payload ∷ []) end is.shut is.frames)

  -- its gate is opened
  open_next : (o : View) (end : ℕ) (c : Image) → IsWritten o end → file (other spare) c ≡ file (other spare) o.seen → file spare c ≡ 1 ∷ drop 1 (file spare o.seen) → IsNext head a payload end c
  open_next o end c is rest opened = record {
    same = beside o.seen c is.same rest;
    frames = record {
      gate = is.frames.gate;
      rest = is.frames.rest;
      split = opened ∙ ap (λ (l : List ℕ). 1 ∷ drop 1 l) is.frames.split;
      shut = is.frames.shut;
      header = is.frames.header;
      place = is.frames.place;
    };
  }

  pub open_run : (o d : View) (end : ℕ) → end < 2 ^ 63 → (o.told → IsWritten o end) → Writes o d (After (MayOpen spare) o.may_leave) → Writes o d Between
  open_run o d end small is run = writes_weaker o d _ Between run (λ told c step.
      let was = is told in
      let seen = was.settled step.0 step.1 in
      let rest = step.2.rest ∙ ap (λ (i : Image). file (other spare) i) seen in
      ⊎_elim (λ shut. closed o.seen c was.same rest (shut_closed (file spare c) shut))
      (λ now. inr (end, small, open_next o end c was rest (now ∙ ap (λ (i : Image). 1 ∷ drop 1 (file spare i)) seen))) step.2.change)

  pub opened_next : (o d : View) (end : ℕ) → IsLawful d → IsWritten o end → AreaStays head a d → Leaves spare (λ f. f ≡ 1 ∷ drop 1 (file spare o.seen)) d → IsNext head a payload end d.seen
  opened_next o d end lawful is stay opened =
      let there = stay d.seen lawful.reads in
      open_next o end d.seen is (subst (λ (x : Area). file x d.seen ≡ file x o.seen) (sym (other_twice head.area)) (there ∙ sym is.same)) (opened d.seen lawful.reads)

  pub all_done : (list : List Stored) (d : View) (end : ℕ) → IsStore a head list → head.generation < 2 ^ 64 - 1 → end < 2 ^ 63 → Only d.seen d.may_leave → IsNext head a payload end d.seen → CheckpointedPayload d head (next_head head end) payload
  all_done list d end store fits small only is ops spelled = record {
    head = refl;
    store = record { settled = only; has = next_has list head a d.seen ops payload end store.has fits small spelled is };
  }

  pub then_between : (m n o : View) → Writes m n Between → Writes n o Between → Writes m o Between
  then_between m n o first second = writes_on m n o Between Between Between first second (λ told c is. is) (λ told c is. is)

-- ---- the runs up to the end of each call, of which the area is the other one

-- what the calls ask for
pub gate_settled : (area : Area) (a : View) → Only a.seen a.may_leave → Leaves area (λ f. take 1 f ≡ take 1 (file area a.seen)) a
gate_settled area a only c left = ap (λ (i : Image). take 1 (file area i)) (only c left)

pub laid_ends : (area : Area) (generation : ℕ) (n : View) → Leaves area (λ f. Shut f × Laid generation f) n → EndsAt area 17 n.may_leave
laid_ends area generation n laid c left = let is = (laid c left).1 in (is.gate ∷ header_bytes generation, [], laid_frames generation (file area c) is)

pub laid_shut : (area : Area) (generation : ℕ) (n : View) → Leaves area (λ f. Shut f × Laid generation f) n → Leaves area Shut n
laid_shut area generation n laid c left = (laid c left).0

module _ (head : Head) (area : Area) (is : area ≡ other head.area) (a : View) (payload : List ℕ) (only : a.told → Only a.seen a.may_leave) (lawful_a : a.told → IsLawful a) where
  abbrev Kept : View → Type 0
  Kept m = Writes a m (IsBetween head a payload)

  abbrev LaidNow : Area → View → Type 0
  LaidNow x n = Leaves x (λ f. Shut f × Laid (head.generation + 1) f) n

  stays_since : (m : View) → (m.told → IsLawful m) → Writes a m (IsBetween head a payload) → m.told → AreaStays head a m
  stays_since m lawful run told =
      let before = run.moments.continues.told_before told in
      stays head a payload a m (lawful_a before) (lawful told) before (λ c left. ap (λ (i : Image). file head.area i) (only before c left)) run

  pub first : (m : View) → Writes a m (After (MayClose area) a.may_leave) → Writes a m (IsBetween head a payload)
  first m run = close_run head a payload m only (subst (λ (x : Area). Writes a m (After (MayClose x) a.may_leave)) is run)

  pub second : (m n : View) → (m.told → IsLawful m) → Writes a m (IsBetween head a payload) → (m.told → Leaves area Shut m) → Writes m n (After (MayLay area) m.may_leave) → Writes a n (IsBetween head a payload)
  second m n lawful one shut run = then_between head a payload a m n one (lay_run head a payload m n (stays_since m lawful one)
      (subst (λ (x : Area). m.told → Leaves x Shut m) is shut) (subst (λ (x : Area). Writes m n (After (MayLay x) m.may_leave)) is run))

  pub third : (n o : View) → (n.told → IsLawful n) → Writes a n (IsBetween head a payload) → (n.told → Leaves area (λ f. Shut f × Laid (head.generation + 1) f) n) → Writes n o (After (MayAppend area 17 payload) n.may_leave) → Writes a o (IsBetween head a payload)
  third n o lawful two laid run = then_between head a payload a n o two (append_run head a payload n o (stays_since n lawful two)
      (subst (λ (x : Area). n.told → LaidNow x n) is laid) (subst (λ (x : Area). Writes n o (After (MayAppend x 17 payload) n.may_leave)) is run))

  pub now_written : (n o : View) (end : ℕ) → (n.told → IsLawful n) → Writes a n (IsBetween head a payload) → (n.told → Leaves area (λ f. Shut f × Laid (head.generation + 1) f) n) → (n.told → Appended area 17 payload end n o) → n.told → IsWritten head a payload o end
  now_written n o end lawful two laid appended told = written head a payload n o end (lawful told) (stays_since n lawful two told) (subst (λ (x : Area). LaidNow x n) is (laid told)) (subst (λ (x : Area). Appended x 17 payload end n o) is (appended told))

  pub now_shut : (o : View) (end : ℕ) → IsWritten head a payload o end → Leaves area Shut o
  now_shut o end was = subst (λ (x : Area). Leaves x Shut o) (sym is) (written_shut head a payload o end was)

  pub fourth : (o d : View) (end : ℕ) → end < 2 ^ 63 → Writes a o (IsBetween head a payload) → (o.told → IsWritten head a payload o end) → Writes o d (After (MayOpen area) o.may_leave) → Writes a d (IsBetween head a payload)
  fourth o d end small three was run = then_between head a payload a o d three (open_run head a payload o d end small was (subst (λ (x : Area). Writes o d (After (MayOpen x) o.may_leave)) is run))

  pub whole_run : (d : View) → head.generation < 2 ^ 64 - 1 → Writes a d (IsBetween head a payload) → Writes a d (CheckpointingPayload a head payload)
  whole_run d fits run = writes_weaker a d _ (CheckpointingPayload a head payload) run (λ told c was. checkpointing head a payload c fits was)

  pub done : (o d : View) (end : ℕ) (list : List Stored) → IsStore a head list → head.generation < 2 ^ 64 - 1 → end < 2 ^ 63 → (d.told → IsLawful d) → d.told → Writes a d (IsBetween head a payload) → IsWritten head a payload o end
      → Only d.seen d.may_leave → Leaves area (λ f. f ≡ 1 ∷ drop 1 (file area o.seen)) d → CheckpointedPayload d head (behind (first_head area (head.generation + 1)) end) payload
  done o d end list store fits small lawful told run was settled opened =
      let next = opened_next head a payload o d end (lawful told) was (stays_since d lawful run told) (subst (λ (x : Area). Leaves x (λ f. f ≡ 1 ∷ drop 1 (file x o.seen)) d) is opened) in
      subst (λ (x : Area). CheckpointedPayload d head (behind (first_head x (head.generation + 1)) end) payload) (sym is) (all_done head a payload list d end store fits small settled next)
