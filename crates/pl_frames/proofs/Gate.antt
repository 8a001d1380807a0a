-- What is read at a gate, as the file.
use Rattle.std.proofs.Common.{◌≡◌, ◌≢◌, ◌<◌, ℕ, ◌+◌, ◌-◌, List, ◌∷◌, ◌++◌, length, get_or, take, drop, sym, ◌∙◌, ap, arith, append_assoc, length-drop, take-append-drop}
use Rattle.std.proofs.lemmas.List.{drop_more, drop-drop, drop-take, get_or-take, take_all}
use Rattle.std.specs.Int.{to_be_bytes, from_be_bytes, w64}
use Rattle.pl_frames.specs.Format.{frame_bytes}
use Rattle.pl_frames.specs.Frame.{IsBroken}

module _ (file : List ℕ) (at : ℕ) (there : at < length file) (head : List ℕ) (size : ℕ) (some : 0 < size) (is : head ≡ take size (drop at file)) where
  first : get_or head 0 0 ≡ get_or file at 0
  first = ap (λ (l : List ℕ). get_or l 0 0) is ∙ get_or-take size (drop at file) 0 0 some ∙ ap (λ (l : List ℕ). get_or l 0 0) (drop_more file at 0 there)

  opened : get_or head 0 0 ≡ 1 → drop at file ≡ 1 ∷ drop (at + 1) file
  opened one = drop_more file at 0 there ∙ ap (λ (x : ℕ). x ∷ drop (at + 1) file) (sym first ∙ one)

  pub closed_read : get_or head 0 0 ≢ 1 → (g : ℕ) × (tail : List ℕ) × (drop at file ≡ g ∷ tail) × (g ≢ 1)
  closed_read shut = (get_or file at 0, drop (at + 1) file, drop_more file at 0 there, λ one. shut (first ∙ one))

  -- the length behind the gate
  pub number : (read : List ℕ) → read ≡ head → size ≡ 9 → take (length read - 1) (drop 1 read) ≡ take 8 (drop (at + 1) file)
  number read same nine =
      take_all (length read - 1) (drop 1 read) (omega (arith, length-drop 1 read)) ∙ ap (λ (l : List ℕ). drop 1 l) (same ∙ is ∙ ap (λ (k : ℕ). take k (drop at file)) nine)
      ∙ drop-take 1 8 (drop at file) ∙ ap (λ (l : List ℕ). take 8 l) (drop-drop 1 at file)

  pub long_read : (n : ℕ) → get_or head 0 0 ≡ 1 → n ≡ from_be_bytes w64 (take 8 (drop (at + 1) file)) → length file - at - 10 < n → IsBroken (drop at file)
  long_read n one value long = (drop (at + 1) file, opened one, omega (arith, value, long, length-drop (at + 1) file))

  pub whole_read : (payload : List ℕ) → get_or head 0 0 ≡ 1 → to_be_bytes w64 (length payload) ≡ take 8 (drop (at + 1) file) → payload ≡ take (length payload) (drop (at + 9) file)
      → drop at file ≡ frame_bytes payload ++ drop (at + 9 + length payload) file
  whole_read payload one value is_payload =
      let rest = drop (at + 9 + length payload) file in
      let eight : drop 8 (drop (at + 1) file) ≡ drop (at + 9) file = drop-drop 8 (at + 1) file ∙ (let same : at + 1 + 8 ≡ at + 9 = omega arith in ap (λ (k : ℕ). drop k file) same) in
      let two : drop (at + 9) file ≡ payload ++ rest = sym (take-append-drop (length payload) (drop (at + 9) file)) ∙ (λ i. sym is_payload i ++ drop-drop (length payload) (at + 9) file i) in
      let three : drop (at + 1) file ≡ (to_be_bytes w64 (length payload) ++ payload) ++ rest =
      sym (take-append-drop 8 (drop (at + 1) file)) ∙ (λ i. sym value i ++ (eight ∙ two) i) ∙ sym (append_assoc (to_be_bytes w64 (length payload)) payload rest) in
      opened one ∙ ap (λ (l : List ℕ). 1 ∷ l) three
