-- Proofs that other crates' proofs may cite; no definition. The frames of a file, gate by gate, and what a closed file is.
use Rattle.std.proofs.Common.{◌≡◌, ◌≢◌, ◌<◌, ◌≤◌, ◌^◌, ℕ, zero, suc, ◌+◌, List, [], ◌∷◌, ◌++◌, length, get_or, take, drop, true, false, nat_eq, nat_lt, Option, Some, None, Result, Ok, Err, refl, sym, ◌∙◌, ap, arith, append_assoc, length-append, length-drop}
use Rattle.std.proofs.lemmas.List.{get_or-drop, take_at, drop_at, drop-drop}
use Rattle.std.proofs.lemmas.Nat.{from_be_bytes-to_be_bytes_8}
use Rattle.std.proofs.lemmas.Bool.Decides.{nat_tests}
use Rattle.std.specs.List.{flat_map}
use Rattle.std.specs.Int.{to_be_bytes, from_be_bytes, w64}
use Rattle.pl_frames.specs.Format.{Frames, frame_bytes, found, read_all, frames_from, is_open}
use Rattle.pl_frames.specs.Frame.{IsBroken}
use Rattle.pl_frames.specs.Header.{Shut}

module _ {T : Type 0} (read : List ℕ → Option T) (more : ℕ) (file : List ℕ) (at : ℕ) where
  size : ℕ
  size = from_be_bytes w64 (take 8 (drop (at + 1) file))

  closed_test : (x : ℕ) → x ≢ 1 → nat_eq x 1 ≡ false
  closed_test x shut = grind (arith, nat_tests)

  long_test : (a b : ℕ) → b ≤ a → nat_lt a b ≡ false
  long_test a b le = grind (arith, nat_tests)

  fits_test : (a b : ℕ) → a < b → nat_lt a b ≡ true
  fits_test a b lt = grind (arith, nat_tests)

  first : (gate : ℕ) (tail : List ℕ) → drop at file ≡ gate ∷ tail → get_or file at 0 ≡ gate
  first gate tail is = let e : at + 0 ≡ at = omega arith in sym (get_or-drop at file 0 0 ∙ ap (λ (k : ℕ). get_or file k 0) e) ∙ ap (λ (l : List ℕ). get_or l 0 0) is

  behind : (gate : ℕ) (tail : List ℕ) → drop at file ≡ gate ∷ tail → drop (at + 1) file ≡ tail
  behind gate tail is = sym (drop-drop 1 at file) ∙ ap (λ (l : List ℕ). drop 1 l) is

  pub at_closed : (gate : ℕ) (tail : List ℕ) → drop at file ≡ gate ∷ tail → gate ≢ 1 → frames_from read (suc more) file at ≡ Ok []
  unfolding frames_from
  at_closed gate tail is shut = rw (closed_test (get_or file at 0) (λ one. shut (sym (first gate tail is) ∙ one))) refl

  pub at_frame : (n : ℕ) (payload : List ℕ) → get_or file at 0 ≡ 1 → from_be_bytes w64 (take 8 (drop (at + 1) file)) ≡ n → take n (drop (at + 9) file) ≡ payload → at + 9 + n < length file
      → frames_from read (suc more) file at ≡ found at (read payload) (frames_from read more file (at + 9 + n))
  unfolding frames_from
  at_frame n payload one is_size is_payload fits = rw (one, is_size, fits_test (at + 9 + n) (length file) fits, is_payload) refl

  pub at_broken : get_or file at 0 ≡ 1 → length file ≤ at + 9 + from_be_bytes w64 (take 8 (drop (at + 1) file)) → frames_from read (suc more) file at ≡ Err at
  unfolding frames_from
  at_broken one short = rw (one, long_test (at + 9 + from_be_bytes w64 (take 8 (drop (at + 1) file))) (length file) short) refl

  pub broken_at : IsBroken (drop at file) → frames_from read (suc more) file at ≡ Err at
  broken_at is =
      let tail = is.0 in
      let next = behind 1 tail is.1 in
      let short : length file ≤ at + 1 + length tail = omega (arith, length-drop at file, ap length is.1) in
      at_broken (first 1 tail is.1) (omega (arith, short, is.2, ap (λ (l : List ℕ). from_be_bytes w64 (take 8 l)) next))

  pub at_open : (payload : List ℕ) (end : ℕ) → drop at file ≡ frame_bytes payload ++ drop end file → end ≡ at + 9 + length payload → end < length file → length payload < 2 ^ 64
      → frames_from read (suc more) file at ≡ found at (read payload) (frames_from read more file end)
  at_open payload end is is_end fits small =
      let n = length payload in
      let number = to_be_bytes w64 n in
      let rest = drop end file in
      let tail = (number ++ payload) ++ rest in
      let next : drop (at + 1) file ≡ number ++ (payload ++ rest) = behind 1 tail is ∙ append_assoc number payload rest in
      let is_size : from_be_bytes w64 (take 8 (drop (at + 1) file)) ≡ n =
      ap (λ (l : List ℕ). from_be_bytes w64 (take 8 l)) next ∙ ap (λ (l : List ℕ). from_be_bytes w64 l) (take_at number (payload ++ rest) 8 refl) ∙ from_be_bytes-to_be_bytes_8 n small in
      let nine : at + 9 ≡ at + 1 + 8 = omega arith in
      let after : drop (at + 9) file ≡ payload ++ rest = ap (λ (k : ℕ). drop k file) nine ∙ sym (drop-drop 8 (at + 1) file) ∙ ap (λ (l : List ℕ). drop 8 l) next ∙ drop_at number (payload ++ rest) 8 refl in
      let is_payload : take n (drop (at + 9) file) ≡ payload = ap (λ (l : List ℕ). take n l) after ∙ take_at payload rest n refl in
      at_frame n payload (first 1 tail is) is_size is_payload (omega (arith, is_end, fits)) ∙ ap (λ (k : ℕ). found at (read payload) (frames_from read more file k)) (sym is_end)

bytes_of : (p : List ℕ) → length (frame_bytes p) ≡ 9 + length p
bytes_of p = omega arith

all_from : {T : Type 0} (read : List ℕ → Option T) (list : List (List ℕ)) (more : ℕ) (file pre : List ℕ) (gate : ℕ) (rest : List ℕ) (at : ℕ) → file ≡ pre ++ (flat_map frame_bytes list ++ gate ∷ rest) → length pre ≡ at → gate ≢ 1
    → length (flat_map frame_bytes list) < 2 ^ 64 → length (flat_map frame_bytes list) < more → frames_from read more file at ≡ read_all read at list
all_from read list zero file pre gate rest at split long shut small few = absurd (omega (arith, few))
all_from read [] (suc more) file pre gate rest at split long shut small few =
    at_closed read more file at gate rest (ap (λ (l : List ℕ). drop at l) split ∙ drop_at pre (gate ∷ rest) at long) shut
all_from {T} read (p ∷ list) (suc more) file pre gate rest at split long shut small few =
    let tail = flat_map frame_bytes list ++ gate ∷ rest in
    let end = at + 9 + length p in
    let sized = length-append (frame_bytes p) (flat_map frame_bytes list) in
    let here : file ≡ pre ++ (frame_bytes p ++ tail) = split ∙ ap (λ (l : List ℕ). pre ++ l) (append_assoc (frame_bytes p) (flat_map frame_bytes list) (gate ∷ rest)) in
    let there : file ≡ (pre ++ frame_bytes p) ++ tail = here ∙ sym (append_assoc pre (frame_bytes p) tail) in
    let far : length (pre ++ frame_bytes p) ≡ end = omega (arith, length-append pre (frame_bytes p), bytes_of p, long) in
    let at_end : drop end file ≡ tail = ap (λ (l : List ℕ). drop end l) there ∙ drop_at (pre ++ frame_bytes p) tail end far in
    let is : drop at file ≡ frame_bytes p ++ drop end file = ap (λ (l : List ℕ). drop at l) here ∙ drop_at pre (frame_bytes p ++ tail) at long ∙ ap (λ (l : List ℕ). frame_bytes p ++ l) (sym at_end) in
    let fits : end < length file = omega (arith, ap length there, length-append (pre ++ frame_bytes p) tail, far, length-append (flat_map frame_bytes list) (gate ∷ rest)) in
    at_open read more file at p end is refl fits (omega (arith, small, sized, bytes_of p))
    ∙ ap (λ (r : Result (List (ℕ × T)) ℕ). found at (read p) r) (all_from read list more file (pre ++ frame_bytes p) gate rest end there far shut (omega (arith, small, sized)) (omega (arith, few, sized, bytes_of p)))

-- the frames that a file has are those that are read
pub frames_read : {T : Type 0} (read : List ℕ → Option T) (file head : List ℕ) (list : List (List ℕ)) (at : ℕ) → Frames file head list at → at < 2 ^ 64 + 17 → frames_from read (length file) file 17 ≡ read_all read 17 list
frames_read read file head list at is small =
    let split = is.split ∙ append_assoc head (flat_map frame_bytes list) (is.gate ∷ is.rest) in
    all_from read list (length file) file head is.gate is.rest 17 split is.header is.shut (omega (arith, small, is.place))
    (omega (arith, ap length split, length-append head (flat_map frame_bytes list ++ is.gate ∷ is.rest), length-append (flat_map frame_bytes list) (is.gate ∷ is.rest)))

-- one frame more behind them
pub read_all-push : {T : Type 0} (read : List ℕ → Option T) (list : List (List ℕ)) (p : List ℕ) (at end : ℕ) (x : T) (xs : List (ℕ × T)) → end ≡ at + length (flat_map frame_bytes list) → read p ≡ Some x
    → read_all read at list ≡ Ok xs → read_all read at (list ++ p ∷ []) ≡ Ok (xs ++ (end, x) ∷ [])
read_all-push {T} read [] p at end x xs is spelled was =
    let here : at ≡ end = omega (arith, is) in
    let none : [] ≡ xs = cc in
    (λ i. found (here i) (spelled i) (Ok [])) ∙ ap (λ (l : List (ℕ × T)). let r : Result (List (ℕ × T)) ℕ = Ok (l ++ (end, x) ∷ []) in r) none
read_all-push {T} read (q ∷ list) p at end x xs is spelled was =
    let next = read_all read (at + 9 + length q) list in
    let more = read_all read (at + 9 + length q) (list ++ p ∷ []) in
    (elim (read q) as (λ (o : Option T). found at o next ≡ Ok xs → found at o more ≡ Ok (xs ++ (end, x) ∷ [])) [
      | None ↦ λ h. absurd (err_ok at xs h)
      | Some y ↦ λ h. (elim next as (λ (r : Result (List (ℕ × T)) ℕ). next ≡ r → found at (Some y) r ≡ Ok xs → found at (Some y) more ≡ Ok (xs ++ (end, x) ∷ [])) [
        | Ok ys ↦ λ same h'. ap (λ (r : Result (List (ℕ × T)) ℕ). found at (Some y) r) (read_all-push read list p (at + 9 + length q) end x ys (omega (arith, is, length-append (frame_bytes q) (flat_map frame_bytes list), bytes_of q)) spelled same)
            ∙ ap (λ (l : List (ℕ × T)). let r : Result (List (ℕ × T)) ℕ = Ok (l ++ (end, x) ∷ []) in r) (inside at y ys xs h')
        | Err place ↦ λ same h'. absurd (err_ok place xs h')
      ]) refl h
    ]) was
  where
    err_ok : {T : Type 0} (place : ℕ) (xs : List (ℕ × T)) → (let r : Result (List (ℕ × T)) ℕ = Err place in r ≡ Ok xs) → ⊥
    err_ok place xs h = cc

    inside : {T : Type 0} (at : ℕ) (y : T) (ys xs : List (ℕ × T)) → (let r : Result (List (ℕ × T)) ℕ = Ok ((at, y) ∷ ys) in r ≡ Ok xs) → (at, y) ∷ ys ≡ xs
    inside at y ys xs h = cc

-- a file whose byte 0 is there and isn't 1 is closed
pub not_one_closed : (x : ℕ) (c : List ℕ) → x ≢ 1 → is_open (x ∷ c) ≡ false
not_one_closed x c shut = grind (arith, nat_tests)

pub shut_closed : (file : List ℕ) → Shut file → is_open file ≡ false
shut_closed file is = ap is_open is.split ∙ not_one_closed is.gate is.rest is.shut
