-- The batches of two files, by their form.
use Rattle.std.proofs.Common.{◌≡◌, ◌<◌, ◌≤◌, ◌^◌, ◌==◌, ℕ, List, [], ◌∷◌, ◌++◌, length, take, drop, Bool, true, false, cond, nat_eq, nat_lt, Option, Some, None, Result, Ok, Err, IfOk, IfSome, refl, sym, ◌∙◌, ap, subst, arith, length-append, length-drop}
use Rattle.std.specs.Cmp.Lexicographic.{pointwise}
use Rattle.std.specs.Int.{to_be_bytes, from_be_bytes, w64}
use Rattle.std.proofs.lemmas.List.{append-nil, take-append-le, drop-append-le, take_at}
use Rattle.std.proofs.lemmas.Nat.{from_be_bytes-to_be_bytes_8}
use Rattle.std.proofs.lemmas.Bool.Decides.{nat_tests}
use Rattle.pl_base.specs.Image.{Image, file, other}
use Rattle.pl_base.specs.declared.area.Area.{Area}
use Rattle.pl_base.specs.declared.area.Area.TheVariants.{A, B}
use Rattle.pl_codec.specs.Reading.{operations_of}
use Rattle.pl_frames.specs.Format.{Frames, frames_from, is_open, has_header, header_bytes, magic}
use Rattle.pl_frames.specs.Header.{Laid, IsInspected}
use Rattle.pl_frames.specs.declared.fail.FrameFail.{FrameFail}
use Rattle.pl_frames.specs.Lent.{frames_read}
use Rattle.pl_keeper.specs.Batches.{Stored, Log, Damage, generation_in, greater, by_headers, counting, logged, log_in, batches}
use Rattle.pl_keeper.specs.Reading.{IsCounting, IsGreater, generation_of}
use Rattle.pl_keeper.specs.Store.{IsPlaced}
use Rattle.pl_keeper.specs.declared.head.Head.{Head}

-- ---- one file

pub closed_area : (file : List ℕ) → is_open file ≡ false → generation_in file ≡ Ok None
closed_area file closed = rw closed refl

pub headless_area : (file : List ℕ) → is_open file ≡ true → has_header file ≡ false → generation_in file ≡ Err 0
headless_area file is_open none = rw (is_open, none) refl

pub headed_area : (file : List ℕ) (generation : ℕ) → is_open file ≡ true → has_header file ≡ true → generation ≡ from_be_bytes w64 (take 8 (drop 9 file)) → generation_in file ≡ Ok (Some generation)
headed_area file generation is_open has is = rw (is_open, has) (ap (λ (n : ℕ). let r : Result (Option ℕ) ℕ = Ok (Some n) in r) (sym is))

-- an area with a generation is open and has a header
pub is_headed : (file : List ℕ) (generation : ℕ) → generation_in file ≡ Ok (Some generation) → (is_open file ≡ true) × (has_header file ≡ true)
is_headed file generation is = by_tests (is_open file) (has_header file) refl refl is
  where
    by_tests : (o h : Bool) → is_open file ≡ o → has_header file ≡ h → (let r : Result (Option ℕ) ℕ = cond o (cond h (Ok (Some (from_be_bytes w64 (take 8 (drop 9 file))))) (Err 0)) (Ok None) in r) ≡ Ok (Some generation) → (is_open file ≡ true) × (has_header file ≡ true)
    by_tests true true opened has h = (opened, has)
    by_tests true false opened has h = absurd (cc)
    by_tests false has opened is_has h = absurd (cc)

-- ---- both

pub both_closed : (c : Image) → is_open c.a ≡ false → is_open c.b ≡ false → counting c ≡ Ok None
both_closed c shut_a shut_b = λ i. by_headers (closed_area c.a shut_a i) (closed_area c.b shut_b i)

-- an area of no generation is closed
is_closed : (file : List ℕ) → generation_in file ≡ Ok None → is_open file ≡ false
is_closed file is = by_tests (is_open file) (has_header file) refl is
  where
    by_tests : (o h : Bool) → is_open file ≡ o → (let r : Result (Option ℕ) ℕ = cond o (cond h (Ok (Some (from_be_bytes w64 (take 8 (drop 9 file))))) (Err 0)) (Ok None) in r) ≡ Ok None → is_open file ≡ false
    by_tests true true opened h = absurd (cc)
    by_tests true false opened h = absurd (cc)
    by_tests false has shut h = shut

pub none_open : (c : Image) → counting c ≡ Ok None → (is_open c.a ≡ false) × (is_open c.b ≡ false)
none_open c is = by_both (generation_in c.a) (generation_in c.b) refl refl is
  where
    by_order : (a b : ℕ) (e : Bool) → (let r : Result (Option Area) Damage = cond e (Err (record { area = B; at = 9 })) (Ok (Some (cond (nat_lt a b) B A))) in r) ≡ Ok None → ⊥
    by_order a b true h = cc
    by_order a b false h = cc

    by_both : (a b : Result (Option ℕ) ℕ) → generation_in c.a ≡ a → generation_in c.b ≡ b → by_headers a b ≡ Ok None → (is_open c.a ≡ false) × (is_open c.b ≡ false)
    by_both (Err at) b is_a is_b h = absurd (cc)
    by_both (Ok a) (Err at) is_a is_b h = absurd (cc)
    by_both (Ok None) (Ok None) is_a is_b h = (is_closed c.a is_a, is_closed c.b is_b)
    by_both (Ok (Some a)) (Ok None) is_a is_b h = absurd (cc)
    by_both (Ok None) (Ok (Some b)) is_a is_b h = absurd (cc)
    by_both (Ok (Some a)) (Ok (Some b)) is_a is_b h = absurd (by_order a b (a == b) h)

pub framed : (c : Image) (area : Area) (r : Result (List Stored) ℕ) → counting c ≡ Ok (Some area) → frames_from operations_of (length (file area c)) (file area c) 17 ≡ r → batches c ≡ logged area r
unfolding batches
framed c area r counts is = ap (λ (r : Result (Option Area) Damage). log_in c r) counts ∙ ap (λ (r : Result (List Stored) ℕ). logged area r) is

list_in : Result Log Damage → List Stored
list_in (Ok log) = log.list
list_in (Err damage) = []

-- what batches say of the area that counts
pub of_batches : (c : Image) (area : Area) (list : List Stored) → counting c ≡ Ok (Some area) → batches c ≡ Ok (record { area = area; list = list }) → frames_from operations_of (length (file area c)) (file area c) 17 ≡ Ok list
unfolding list_in
of_batches c area list counts is =
    let frames = frames_from operations_of (length (file area c)) (file area c) 17 in
    within frames (sym (framed c area frames counts refl) ∙ is)
  where
    within : (r : Result (List Stored) ℕ) → logged area r ≡ Ok (record { area = area; list = list }) → r ≡ Ok list
    within (Err at) h = absurd (cc)
    within (Ok xs) h =
        let same : xs ≡ list = ap (λ (r : Result Log Damage). list_in r) h in
        ap (λ (l : List Stored). let r : Result (List Stored) ℕ = Ok l in r) same

-- the area that counts has a generation
pub counting_headed : (c : Image) (area : Area) → counting c ≡ Ok (Some area) → (generation : ℕ) × (generation_in (file area c) ≡ Ok (Some generation))
counting_headed c area is = by_both (generation_in c.a) (generation_in c.b) refl refl is
  where
    by_both : (a b : Result (Option ℕ) ℕ) → generation_in c.a ≡ a → generation_in c.b ≡ b → by_headers a b ≡ Ok (Some area) → (generation : ℕ) × (generation_in (file area c) ≡ Ok (Some generation))
    by_both (Err at) b is_a is_b h = absurd (cc)
    by_both (Ok a) (Err at) is_a is_b h = absurd (cc)
    by_both (Ok None) (Ok None) is_a is_b h = absurd (cc)
    by_both (Ok (Some a)) (Ok None) is_a is_b h = by_area area a is_a (let same : A ≡ area = cc in same)
      where
        by_area : (x : Area) (n : ℕ) → generation_in c.a ≡ Ok (Some n) → A ≡ x → (generation : ℕ) × (generation_in (file x c) ≡ Ok (Some generation))
        by_area A n is same = (n, is)
        by_area B n is same = absurd (cc)
    by_both (Ok None) (Ok (Some b)) is_a is_b h = by_area area b is_b (let same : B ≡ area = cc in same)
      where
        by_area : (x : Area) (n : ℕ) → generation_in c.b ≡ Ok (Some n) → B ≡ x → (generation : ℕ) × (generation_in (file x c) ≡ Ok (Some generation))
        by_area A n is same = absurd (cc)
        by_area B n is same = (n, is)
    by_both (Ok (Some a)) (Ok (Some b)) is_a is_b h = by_area area
      where
        by_area : (x : Area) → (generation : ℕ) × (generation_in (file x c) ≡ Ok (Some generation))
        by_area A = (a, is_a)
        by_area B = (b, is_b)

-- one area has this generation and the other is closed: the one counts
pub alone : (area : Area) (c : Image) (generation : ℕ) → generation_in (file area c) ≡ Ok (Some generation) → is_open (file (other area) c) ≡ false → counting c ≡ Ok (Some area)
alone A c generation has shut = λ i. by_headers (has i) (closed_area c.b shut i)
alone B c generation has shut = λ i. by_headers (closed_area c.a shut i) (has i)

-- ---- a new area

long_open : (x : ℕ) (rest : List ℕ) → 0 < length rest → x ≡ 1 → is_open (x ∷ rest) ≡ true
long_open x rest long one = grind (arith, nat_tests)

headed : (generation rest : List ℕ) → length generation ≡ 8 → 0 < length rest → has_header (1 ∷ ((magic ++ generation) ++ rest)) ≡ true
headed generation rest eight long = let n = length-append generation rest in grind (arith, nat_tests, n)

pub laid_open : (generation : ℕ) (d c : List ℕ) → Laid generation d → c ≡ 1 ∷ drop 1 d → Laid generation c
laid_open generation d c laid is = record { gate = 1; rest = laid.rest; split = is ∙ ap (λ (l : List ℕ). 1 ∷ drop 1 l) laid.split }

-- an open area with a header of this generation
pub header_generation : (generation : ℕ) (c rest : List ℕ) → generation < 2 ^ 64 → 0 < length rest → c ≡ 1 ∷ (header_bytes generation ++ rest) → generation_in c ≡ Ok (Some generation)
header_generation generation c rest fits some split =
    let number = to_be_bytes w64 generation in
    let opened : is_open c ≡ true = ap is_open split ∙ long_open 1 ((magic ++ number) ++ rest) (let n = length-append (magic ++ number) rest in omega (arith, some, n)) refl in
    let has : has_header c ≡ true = ap has_header split ∙ headed number rest refl some in
    let behind : drop 8 ((magic ++ number) ++ rest) ≡ number ++ rest = refl in
    let read : from_be_bytes w64 (take 8 (drop 9 c)) ≡ generation =
    ap (λ (l : List ℕ). from_be_bytes w64 (take 8 (drop 9 l))) split ∙ ap (λ (l : List ℕ). from_be_bytes w64 (take 8 l)) behind
    ∙ ap (λ (l : List ℕ). from_be_bytes w64 l) (take_at number rest 8 refl) ∙ from_be_bytes-to_be_bytes_8 generation fits in
    headed_area c generation opened has (sym read)

pub laid_generation : (generation : ℕ) (d c : List ℕ) → generation < 2 ^ 64 → Laid generation d → c ≡ 1 ∷ drop 1 d → generation_in c ≡ Ok (Some generation)
laid_generation generation d c fits laid is = header_generation generation c (0 ∷ laid.rest) fits (omega arith) (is ∙ ap (λ (l : List ℕ). 1 ∷ drop 1 l) laid.split)

-- no frame stands in an area that was laid
pub laid_frames : (generation : ℕ) (c : List ℕ) (laid : Laid generation c) → Frames c (laid.gate ∷ header_bytes generation) [] 17
laid_frames generation c laid = record { gate = 0; rest = laid.rest; split = laid.split ∙ ap (λ (l : List ℕ). l ++ 0 ∷ laid.rest) (sym (append-nil (laid.gate ∷ header_bytes generation))); shut = omega arith; header = refl; place = refl }

pub no_batch : (generation : ℕ) (area : Area) (c : Image) → Laid generation (file area c) → counting c ≡ Ok (Some area) → batches c ≡ Ok (record { area = area; list = [] })
no_batch generation area c laid counts =
    framed c area (Ok []) counts (frames_read operations_of (file area c) (laid.gate ∷ header_bytes generation) [] 17 (laid_frames generation (file area c) laid) (omega arith))

-- ---- files of the same header

pub same_generation : (d c head rest rest' : List ℕ) → length head ≡ 17 → d ≡ head ++ rest → c ≡ head ++ rest' → 0 < length rest → 0 < length rest' → generation_in c ≡ generation_in d
same_generation d c [] rest rest' long is_d is_c some some' = absurd (omega (arith, long))
same_generation d c (x ∷ head) rest rest' long is_d is_c some some' =
    ap generation_in is_c ∙ of_front rest' some' ∙ sym (of_front rest some) ∙ ap generation_in (sym is_d)
  where
    open_is : (l : List ℕ) → 0 < length l → is_open (x ∷ l) ≡ (x == 1)
    open_is l some = grind (arith, nat_tests)

    header_is : (l : List ℕ) → 17 ≤ length l → has_header (x ∷ l) ≡ pointwise nat_eq (take 8 l) magic
    header_is l long = grind (arith, nat_tests)

    of_front : (l : List ℕ) → 0 < length l → generation_in ((x ∷ head) ++ l) ≡ cond (x == 1) (cond (pointwise nat_eq (take 8 head) magic) (Ok (Some (from_be_bytes w64 (take 8 (drop 8 head))))) (Err 0)) (Ok None)
    of_front l some =
        let size = length-append head l in
        let opened = open_is (head ++ l) (omega (arith, long, size)) in
        let word = header_is (head ++ l) (omega (arith, long, size, some)) ∙ ap (λ (w : List ℕ). pointwise nat_eq w magic) (take-append-le 8 head l (omega (arith, long))) in
        let number : take 8 (drop 8 (head ++ l)) ≡ take 8 (drop 8 head) =
        ap (λ (w : List ℕ). take 8 w) (drop-append-le 8 head l (omega (arith, long))) ∙ take-append-le 8 (drop 8 head) l (omega (arith, long, length-drop 8 head)) in
        (λ i. let r : Result (Option ℕ) ℕ = cond (opened i) (cond (word i) (Ok (Some (from_be_bytes w64 (number i)))) (Err 0)) (Ok None) in r)

-- the area that counts is the same where one file has the same generation and the other one stays
pub same_counting : (area : Area) (d c : Image) → generation_in (file area c) ≡ generation_in (file area d) → file (other area) c ≡ file (other area) d → counting c ≡ counting d
same_counting A d c same rest = λ i. by_headers (same i) (generation_in (rest i))
same_counting B d c same rest = λ i. by_headers (generation_in (rest i)) (same i)

-- ---- the headers as they are read

pub inspected : (f : List ℕ) (o : Option ℕ) → IsInspected f o → generation_in f ≡ Ok o
inspected f None is = closed_area f is
inspected f (Some generation) is = headed_area f generation is.0 is.1 is.2

counted_by : (c : Image) (area : Area) (a b : Option ℕ) (generation : ℕ) → generation_in c.a ≡ Ok a → generation_in c.b ≡ Ok b → generation_of area a b ≡ Some generation → generation_in (file area c) ≡ Ok (Some generation)
counted_by c A a b generation is_a is_b is = is_a ∙ ap (λ (o : Option ℕ). let r : Result (Option ℕ) ℕ = Ok o in r) is
counted_by c B a b generation is_a is_b is = is_b ∙ ap (λ (o : Option ℕ). let r : Result (Option ℕ) ℕ = Ok o in r) is

judged : (c : Image) (a b : Option ℕ) → generation_in c.a ≡ Ok a → generation_in c.b ≡ Ok b → counting c ≡ greater a b
judged c a b is_a is_b = λ i. by_headers (is_a i) (is_b i)

-- the area that counts, by what was read of both headers
pub counted : (c : Image) (a b : Option ℕ) (r : Result (Option Head) FrameFail) → generation_in c.a ≡ Ok a → generation_in c.b ≡ Ok b → IsGreater a b r → IfOk r (IsCounting c)
counted c a b (Ok None) is_a is_b is = judged c a b is_a is_b ∙ is
counted c a b (Ok (Some head)) is_a is_b is = record {
  counts = judged c a b is_a is_b ∙ is.0;
  generation = counted_by c head.area a b head.generation is_a is_b is.1;
  first = is.2;
}
counted c a b (Err e) is_a is_b is = tt

pub first_placed : (a b : Option ℕ) (r : Result (Option Head) FrameFail) → IsGreater a b r → IfOk r (λ found. IfSome found IsPlaced)
first_placed a b (Ok None) is = tt
first_placed a b (Ok (Some head)) is = subst IsPlaced (sym is.2) (omega arith, omega arith)
first_placed a b (Err e) is = tt
