-- The frames that were read so far.
use Rattle.std.proofs.Common.{◌≡◌, ◌≢◌, ◌<◌, ◌≤◌, ◌^◌, ◌==◌, ◌&&◌, ℕ, zero, suc, ◌+◌, List, [], ◌∷◌, ◌++◌, length, take, drop, cond, nat_eq, nat_lt, Option, Some, None, not, Bool, true, false, Result, Ok, Err, refl, sym, ◌∙◌, ap, subst, arith, append_assoc, length-append, length-take, length-drop, take-append-drop}
use Rattle.std.proofs.lemmas.List.{append-nil, drop_at}
use Rattle.std.proofs.lemmas.Grind.{flat_map-append}
use Rattle.std.proofs.lemmas.Bool.Decides.{nat_tests}
use Rattle.std.specs.List.{flat_map}
use Rattle.pl_base.specs.declared.operation.Op.{Op}
use Rattle.pl_base.specs.Image.{Image, file}
use Rattle.pl_base.specs.declared.area.Area.{Area}
use Rattle.pl_disk.specs.Disk.{View, Looks, Only}
use Rattle.pl_codec.specs.Reading.{operations_of}
use Rattle.pl_frames.specs.Format.{Frames, frame_bytes, found, read_all, frames_from, has_header}
use Rattle.pl_frames.specs.Frame.{IsBroken, IsRead, BreaksAt}
use Rattle.pl_frames.specs.declared.frame.Frame.{Frame}
use Rattle.pl_frames.specs.Lent.{at_open, broken_at, frames_read, read_all-push}
use Rattle.pl_keeper.specs.Batches.{Stored, Log, Damage, batches}
use Rattle.pl_keeper.specs.Reading.{IsFirst}
use Rattle.pl_keeper.specs.Store.{Has, ReadTo, IsReading, IsStore, DamagedAt, IsPlaced, base_of, behind}
use Rattle.pl_keeper.specs.declared.head.Head.{Head}
use Rattle.pl_keeper.proofs.Opens.{framed, is_headed}

-- ---- the frames in front of a gate

-- these batches in front of what the rest reads as
abbrev onto : List Stored → Result (List Stored) ℕ → Result (List Stored) ℕ
onto xs (Ok ys) = Ok (xs ++ ys)
onto xs (Err at) = Err at

onto_none : (r : Result (List Stored) ℕ) → r ≡ onto [] r
onto_none (Ok ys) = refl
onto_none (Err at) = refl

found_onto : (at : ℕ) (ops : List Op) (xs : List Stored) (r : Result (List Stored) ℕ) → found at (Some ops) (onto xs r) ≡ onto ((at, ops) ∷ xs) r
found_onto at ops xs (Ok ys) = refl
found_onto at ops xs (Err place) = refl

-- the first of some frames that read as a list
pub record FoundFirst (at : ℕ) (o : Option (List Op)) (r : Result (List Stored) ℕ) (list : List Stored) : Type 0 where
  pub ops : List Op
  pub more : List Stored
  pub spelled : o ≡ Some ops
  pub read : r ≡ Ok more
  pub is : list ≡ (at, ops) ∷ more

found_first : (at : ℕ) (o : Option (List Op)) (r : Result (List Stored) ℕ) (list : List Stored) → found at o r ≡ Ok list → FoundFirst at o r list
found_first at None r list h = absurd (cc)
found_first at (Some ops) (Err place) list h = absurd (cc)
found_first at (Some ops) (Ok more) list h = record { ops = ops; more = more; spelled = refl; read = refl; is = let same : list ≡ (at, ops) ∷ more = cc in same }

front_read : (payloads : List (List ℕ)) (list : List Stored) (more : ℕ) (file pre rest : List ℕ) (at end : ℕ) → file ≡ pre ++ (flat_map frame_bytes payloads ++ rest) → length pre ≡ at → end ≡ at + length (flat_map frame_bytes payloads)
    → 0 < length rest → length (flat_map frame_bytes payloads) < 2 ^ 64 → length file ≤ at + more → read_all operations_of at payloads ≡ Ok list
    → (m : ℕ) × (length file ≤ end + m) × (frames_from operations_of more file at ≡ onto list (frames_from operations_of m file end))
front_read [] list more file pre rest at end split long is_end some small enough read =
    let same : at ≡ end = omega (arith, is_end) in
    let none : [] ≡ list = cc in
    (more, omega (arith, enough, is_end), ap (λ (k : ℕ). frames_from operations_of more file k) same ∙ onto_none (frames_from operations_of more file end) ∙ ap (λ (l : List Stored). onto l (frames_from operations_of more file end)) none)
front_read (p ∷ payloads) list zero file pre rest at end split long is_end some small enough read =
    absurd (omega (arith, enough, ap length split, length-append pre (flat_map frame_bytes (p ∷ payloads) ++ rest), length-append (flat_map frame_bytes (p ∷ payloads)) rest, some, long))
front_read (p ∷ payloads) list (suc more) file pre rest at end split long is_end some small enough read =
    let tail = flat_map frame_bytes payloads ++ rest in
    let next = at + 9 + length p in
    let bytes : length (frame_bytes p) ≡ 9 + length p = omega arith in
    let sized = length-append (frame_bytes p) (flat_map frame_bytes payloads) in
    let here : file ≡ pre ++ (frame_bytes p ++ tail) = split ∙ ap (λ (l : List ℕ). pre ++ l) (append_assoc (frame_bytes p) (flat_map frame_bytes payloads) rest) in
    let there : file ≡ (pre ++ frame_bytes p) ++ tail = here ∙ sym (append_assoc pre (frame_bytes p) tail) in
    let far : length (pre ++ frame_bytes p) ≡ next = omega (arith, length-append pre (frame_bytes p), bytes, long) in
    let at_end : drop next file ≡ tail = ap (λ (l : List ℕ). drop next l) there ∙ drop_at (pre ++ frame_bytes p) tail next far in
    let is : drop at file ≡ frame_bytes p ++ drop next file = ap (λ (l : List ℕ). drop at l) here ∙ drop_at pre (frame_bytes p ++ tail) at long ∙ ap (λ (l : List ℕ). frame_bytes p ++ l) (sym at_end) in
    let fits : next < length file = omega (arith, ap length there, length-append (pre ++ frame_bytes p) tail, far, length-append (flat_map frame_bytes payloads) rest, some) in
    let first = found_first at (operations_of p) (read_all operations_of next payloads) list read in
    let others = front_read payloads first.more more file (pre ++ frame_bytes p) rest next end there far (omega (arith, is_end, sized, bytes)) some (omega (arith, small, sized)) (omega (arith, enough, bytes)) first.read in (
      others.0,
      others.1,
      at_open operations_of more file at p next is refl fits (omega (arith, small, sized, bytes))
          ∙ (λ i. found at (first.spelled i) (others.2 i))
          ∙ found_onto at first.ops first.more (frames_from operations_of others.0 file end)
          ∙ ap (λ (l : List Stored). onto l (frames_from operations_of others.0 file end)) (sym first.is),
    )

one_less : (n : ℕ) → 0 < n → (m : ℕ) × (n ≡ suc m)
one_less zero low = absurd (omega (arith, low))
one_less (suc m) low = (m, refl)

bytes_push : (list : List (List ℕ)) (payload : List ℕ) → flat_map frame_bytes (list ++ payload ∷ []) ≡ flat_map frame_bytes list ++ frame_bytes payload
bytes_push list payload = flat_map-append frame_bytes list (payload ∷ []) ∙ ap (λ (l : List ℕ). flat_map frame_bytes list ++ l) (append-nil (frame_bytes payload))

-- ---- where the first frame ends

long_front : (p : List ℕ) (payloads : List (List ℕ)) → 17 < 17 + length (flat_map frame_bytes (p ∷ payloads))
long_front p payloads =
    let sized : length (frame_bytes p) ≡ 9 + length p = omega arith in
    omega (arith, sized, length-append (frame_bytes p) (flat_map frame_bytes payloads))

above_zero : (n : ℕ) → nat_lt 0 n ≡ not (nat_eq n 0)
above_zero n = grind (arith, nat_tests)

turned : (b : Bool) (x y : ℕ) → cond (not b) x y ≡ cond b y x
turned true x y = refl
turned false x y = refl

pub base_behind : (head : Head) (payloads : List (List ℕ)) (payload : List ℕ) (end : ℕ) → head.end ≡ 17 + length (flat_map frame_bytes payloads) → head.base ≡ base_of head.generation payloads → end ≡ head.end + 9 + length payload
    → (behind head end).base ≡ base_of head.generation (payloads ++ payload ∷ [])
base_behind head [] payload end place is is_end =
    let at_first : head.end ≡ 17 = omega (arith, place) in
    let more : end + 1 ≡ 27 + length payload = omega (arith, is_end, at_first) in
    (λ i. cond (nat_eq (at_first i) 17 && nat_lt 0 head.generation) (end + 1) head.base)
    ∙ ap (λ (b : ℕ). cond (nat_lt 0 head.generation) (end + 1) b) is
    ∙ ap (λ (b : Bool). cond b (end + 1) 18) (above_zero head.generation) ∙ turned (nat_eq head.generation 0) (end + 1) 18
    ∙ ap (λ (n : ℕ). cond (nat_eq head.generation 0) 18 n) more
base_behind head (p ∷ payloads) payload end place is is_end =
    let far : nat_eq head.end 17 ≡ false = let long = long_front p payloads in grind (arith, nat_tests, long, place) in
    (λ i. cond (far i && nat_lt 0 head.generation) (end + 1) head.base) ∙ is

pub placed_behind : (head : Head) (end : ℕ) → IsPlaced head → end < 2 ^ 63 → IsPlaced (behind head end)
placed_behind head end placed small = (small, by_test (head.end == 17 && nat_lt 0 head.generation))
  where
    by_test : (b : Bool) → cond b (end + 1) head.base ≤ 2 ^ 63
    by_test true = omega (arith, small)
    by_test false = placed.1

-- ---- a store that is read

-- nothing was read yet
pub none_read : (head : Head) (c : Image) → IsFirst head c → ReadTo [] head c
none_read head c is =
    let end : head.end ≡ 17 = ap (λ (h : Head). h.end) is.first in
    let f = file head.area c in
    record {
      counts = is.counts;
      generation = is.generation;
      payloads = [];
      split = sym (take-append-drop 17 f) ∙ ap (λ (l : List ℕ). l ++ drop 17 f) (sym (append-nil (take 17 f))) ∙ ap (λ (k : ℕ). (take 17 f ++ []) ++ drop k f) (sym end);
      place = end;
      gate = long_header f head.end end (is_headed f head.generation is.generation).1;
      read = refl;
      base = ap (λ (h : Head). h.base) is.first;
    }
  where
    past_header : (f : List ℕ) → has_header f ≡ true → 17 < length f
    past_header f is = grind (arith, nat_tests)

    long_header : (f : List ℕ) (end : ℕ) → end ≡ 17 → has_header f ≡ true → end < length f
    long_header f end at is = omega (arith, at, past_header f is)

module _ (head : Head) (c : Image) (list : List Stored) (was : ReadTo list head c) (small_place : head.end < 2 ^ 63) where
  abbrev text : List ℕ
  text = file head.area c

  front : (m : ℕ) × (length text ≤ head.end + m) × (frames_from operations_of (length text) text 17 ≡ onto list (frames_from operations_of m text head.end))
  front = front_read was.payloads list (length text) text (take 17 text) (drop head.end text) 17 head.end (was.split ∙ append_assoc (take 17 text) (flat_map frame_bytes was.payloads) (drop head.end text)) (omega (arith, length-take 17 text, was.gate, was.place)) was.place
      (omega (arith, length-drop head.end text, was.gate)) (omega (arith, was.place, small_place)) (omega arith) was.read

  less : (m : ℕ) × (front.0 ≡ suc m)
  less = one_less front.0 (omega (arith, was.gate, front.1))

  form : frames_from operations_of (length text) text 17 ≡ onto list (frames_from operations_of (suc less.0) text head.end)
  form = front.2 ∙ ap (λ (n : ℕ). onto list (frames_from operations_of n text head.end)) less.1

  pub one_more : (payload : List ℕ) (end : ℕ) (ops : List Op) → drop head.end text ≡ frame_bytes payload ++ drop end text → end ≡ head.end + 9 + length payload → end < length text → operations_of payload ≡ Some ops
      → ReadTo (list ++ (head.end, ops) ∷ []) (behind head end) c
  one_more payload end ops is is_end gate spelled =
      let sized : length (frame_bytes payload) ≡ 9 + length payload = omega arith in
      let more = bytes_push was.payloads payload in
      record {
        counts = was.counts;
        generation = was.generation;
        payloads = was.payloads ++ payload ∷ [];
        split = was.split ∙ ap (λ (l : List ℕ). take 17 text ++ flat_map frame_bytes was.payloads ++ l) is
            ∙ sym (append_assoc (take 17 text ++ flat_map frame_bytes was.payloads) (frame_bytes payload) (drop end text))
            ∙ ap (λ (l : List ℕ). l ++ drop end text) (append_assoc (take 17 text) (flat_map frame_bytes was.payloads) (frame_bytes payload) ∙ ap (λ (l : List ℕ). take 17 text ++ l) (sym more));
        place = omega (arith, was.place, is_end, ap length more, length-append (flat_map frame_bytes was.payloads) (frame_bytes payload), sized);
        gate = gate;
        read = read_all-push operations_of was.payloads payload 17 head.end ops list was.place spelled was.read;
        base = base_behind head was.payloads payload end was.place was.base is_end;
      }

  damaged : frames_from operations_of (length text) text 17 ≡ Err head.end → batches c ≡ Err (record { area = head.area; at = head.end })
  damaged is = framed c head.area (Err head.end) was.counts is

  pub bad : (payload : List ℕ) (end : ℕ) → drop head.end text ≡ frame_bytes payload ++ drop end text → end ≡ head.end + 9 + length payload → end < length text → end < 2 ^ 63 → operations_of payload ≡ None
      → batches c ≡ Err (record { area = head.area; at = head.end })
  bad payload end is is_end gate small none =
      damaged (form ∙ ap (λ (r : Result (List Stored) ℕ). onto list r) (at_open operations_of less.0 text head.end payload end is is_end gate (omega (arith, small, is_end))
      ∙ ap (λ (o : Option (List Op)). found head.end o (frames_from operations_of less.0 text end)) none))

  pub broken : IsBroken (drop head.end text) → batches c ≡ Err (record { area = head.area; at = head.end })
  broken is = damaged (form ∙ ap (λ (r : Result (List Stored) ℕ). onto list r) (broken_at operations_of less.0 text head.end is))

  -- the gate is closed: these are all
  pub all_read : (gate : ℕ) (tail : List ℕ) → drop head.end text ≡ gate ∷ tail → gate ≢ 1 → Has list head c
  all_read gate tail is shut =
      let frames : Frames text (take 17 text) was.payloads head.end = record {
        gate = gate;
        rest = tail;
        split = was.split ∙ ap (λ (l : List ℕ). take 17 text ++ flat_map frame_bytes was.payloads ++ l) is;
        shut = shut;
        header = omega (arith, length-take 17 text, was.gate, was.place);
        place = was.place;
      } in
      record {
        counts = was.counts;
        generation = was.generation;
        batches = framed c head.area (Ok list) was.counts (frames_read operations_of text (take 17 text) was.payloads head.end frames (omega (arith, small_place)) ∙ was.read);
        bytes = take 17 text;
        payloads = was.payloads;
        frames = frames;
        base = was.base;
      }

-- ---- over views

still_settled : (a d : View) → a.told → Looks a d → Only a.seen a.may_leave → Only d.seen d.may_leave
still_settled a d told looks only c left = only c ((looks.images told).crash c left) ∙ sym (looks.images told).seen

module _ (a d : View) (told : a.told) (looks : Looks a d) (head : Head) (list : List Stored) (was : IsReading a head list) (small_place : head.end < 2 ^ 63) where
  pub reads_on : (frame : Frame) (ops : List Op) → IsRead (file head.area a.seen) head.end (Some frame) → operations_of frame.payload ≡ Some ops → IsReading d (behind head frame.end) (list ++ (head.end, ops) ∷ [])
  reads_on frame ops is spelled = record {
    settled = still_settled a d told looks was.settled;
    read = subst (λ (i : Image). ReadTo (list ++ (head.end, ops) ∷ []) (behind head frame.end) i) (sym (looks.images told).seen) (one_more head a.seen list was.read small_place frame.payload frame.end ops is.0 is.1 is.2 spelled);
  }

  pub reads_end : IsRead (file head.area a.seen) head.end None → IsStore d head list
  reads_end is = record {
    settled = still_settled a d told looks was.settled;
    has = subst (λ (i : Image). Has list head i) (sym (looks.images told).seen) (all_read head a.seen list was.read small_place is.0 is.1 is.2 is.3);
  }

-- the damage that is found at the gate
damage_at : {x y : Area} {m n : ℕ} → x ≡ y → m ≡ n → (let r : Result Log Damage = Err (record { area = x; at = m }) in r) ≡ Err (record { area = y; at = n })
damage_at p q = λ i. Err (record { area = p i; at = q i })

pub gate_damage : (a : View) (head : Head) → head.end < 2 ^ 63 → (a.told → (list : List Stored) × IsReading a head list) → (where_ : Area) (place : ℕ) → BreaksAt head.area head.end a where_ place → DamagedAt a where_ place
gate_damage a head small reading where_ place is told =
    let it = is told in
    let was = reading told in
    broken head a.seen was.0 was.1.read small it.2 ∙ damage_at (sym it.0) (sym it.1)
