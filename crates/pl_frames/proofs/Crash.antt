-- What a crash leaves in each of the two steps of an `append`.
use Rattle.std.proofs.Common.{◌≡◌, ◌≢◌, ◌⊎◌, ◌≤◌, inl, inr, ℕ, ◌+◌, List, [], ◌∷◌, ◌++◌, length, get_or, take, drop, sym, ◌∙◌, ap, arith, append_assoc, length-append, take-append-drop}
use Rattle.std.proofs.lemmas.List.{take_at, drop_at, drop_more, append-nil}
use Rattle.std.proofs.lemmas.Grind.{flat_map-append}
use Rattle.std.proofs.lemmas.Bool.{cases_eq}
use Rattle.std.specs.List.{flat_map}
use Rattle.std.specs.Int.{to_be_bytes, w64}
use Rattle.pl_disk.specs.Disk.{Holds, Torn}
use Rattle.pl_frames.specs.Format.{Frames, frame_bytes, body_bytes}

-- all up to the place
abbrev pub front : List ℕ → List (List ℕ) → List ℕ
front head list = head ++ flat_map frame_bytes list

-- a closed frame behind the others
pub record Staged (file : List ℕ) (head : List ℕ) (list : List (List ℕ)) (at : ℕ) (payload : List ℕ) : Type 0 where
  pub gate : ℕ
  pub rest : List ℕ
  pub split : file ≡ front head list ++ gate ∷ (body_bytes payload ++ rest)
  pub shut : gate ≢ 1
  pub header : length head ≡ 17
  pub place : at ≡ 17 + length (flat_map frame_bytes list)

size : (head : List ℕ) (list : List (List ℕ)) (at : ℕ) → length head ≡ 17 → at ≡ 17 + length (flat_map frame_bytes list) → length (front head list) ≡ at
size head list at header place = omega (arith, header, place, length-append head (flat_map frame_bytes list))

pushed : (pre : List ℕ) (gate : ℕ) (rest : List ℕ) → pre ++ gate ∷ rest ≡ (pre ++ gate ∷ []) ++ rest
pushed pre gate rest = sym (append_assoc pre (gate ∷ []) rest)

take_front : (file pre : List ℕ) (gate : ℕ) (rest : List ℕ) (at : ℕ) → file ≡ pre ++ gate ∷ rest → length pre ≡ at → take (at + 1) file ≡ pre ++ gate ∷ []
take_front file pre gate rest at split long =
    ap (λ (l : List ℕ). take (at + 1) l) (split ∙ pushed pre gate rest) ∙ take_at (pre ++ gate ∷ []) rest (at + 1) (omega (arith, long, length-append pre (gate ∷ [])))

drop_front : (file pre : List ℕ) (gate : ℕ) (rest : List ℕ) (at : ℕ) → file ≡ pre ++ gate ∷ rest → length pre ≡ at → drop (at + 1) file ≡ rest
drop_front file pre gate rest at split long =
    ap (λ (l : List ℕ). drop (at + 1) l) (split ∙ pushed pre gate rest) ∙ drop_at (pre ++ gate ∷ []) rest (at + 1) (omega (arith, long, length-append pre (gate ∷ [])))

-- the closed gate stands in each outcome of the first write
pub torn_body : (file new : List ℕ) (head : List ℕ) (list : List (List ℕ)) (at n : ℕ) → Frames file head list at → Torn (at + 1) n file new → Frames new head list at
torn_body file new head list at n was torn =
    let long = size head list at was.header was.place in
    let kept = torn.before ∙ take_front file (front head list) was.gate was.rest at was.split long in
    record {
      gate = was.gate;
      rest = drop (at + 1) new;
      split = sym (take-append-drop (at + 1) new) ∙ ap (λ (l : List ℕ). l ++ drop (at + 1) new) kept ∙ sym (pushed (front head list) was.gate (drop (at + 1) new));
      shut = was.shut;
      header = was.header;
      place = was.place;
    }

pub written_body : (file new : List ℕ) (head : List ℕ) (list : List (List ℕ)) (at : ℕ) (payload : List ℕ) → Frames file head list at → Holds file (at + 1) (body_bytes payload) new → Staged new head list at payload
written_body file new head list at payload was holds =
    let long = size head list at was.header was.place in
    let tail = drop (at + 1 + length (body_bytes payload)) file in
    record {
      gate = was.gate;
      rest = tail;
      split = holds ∙ ap (λ (l : List ℕ). l ++ body_bytes payload ++ tail) (take_front file (front head list) was.gate was.rest at was.split long)
          ∙ append_assoc (front head list ++ was.gate ∷ []) (body_bytes payload) tail
          ∙ sym (pushed (front head list) was.gate (body_bytes payload ++ tail));
      shut = was.shut;
      header = was.header;
      place = was.place;
    }

-- an open frame with a closed gate behind it
joined : (pre : List ℕ) (list : List (List ℕ)) (payload rest : List ℕ) → (pre ++ flat_map frame_bytes list) ++ 1 ∷ (body_bytes payload ++ rest) ≡ (pre ++ flat_map frame_bytes (list ++ payload ∷ [])) ++ 0 ∷ rest
joined pre list payload rest =
    let frame : 1 ∷ (body_bytes payload ++ rest) ≡ frame_bytes payload ++ 0 ∷ rest = ap (λ (l : List ℕ). 1 ∷ l) (append_assoc (to_be_bytes w64 (length payload) ++ payload) (0 ∷ []) rest) in
    let more : flat_map frame_bytes (list ++ payload ∷ []) ≡ flat_map frame_bytes list ++ frame_bytes payload =
    flat_map-append frame_bytes list (payload ∷ []) ∙ ap (λ (l : List ℕ). flat_map frame_bytes list ++ l) (append-nil (frame_bytes payload)) in
    ap (λ (l : List ℕ). (pre ++ flat_map frame_bytes list) ++ l) frame
    ∙ sym (append_assoc (pre ++ flat_map frame_bytes list) (frame_bytes payload) (0 ∷ rest))
    ∙ ap (λ (l : List ℕ). l ++ 0 ∷ rest) (append_assoc pre (flat_map frame_bytes list) (frame_bytes payload) ∙ ap (λ (l : List ℕ). pre ++ l) (sym more))

longer : (list : List (List ℕ)) (payload : List ℕ) → length (flat_map frame_bytes (list ++ payload ∷ [])) ≡ length (flat_map frame_bytes list) + 9 + length payload
longer list payload =
    let more : flat_map frame_bytes (list ++ payload ∷ []) ≡ flat_map frame_bytes list ++ frame_bytes payload =
    flat_map-append frame_bytes list (payload ∷ []) ∙ ap (λ (l : List ℕ). flat_map frame_bytes list ++ l) (append-nil (frame_bytes payload)) in
    let frame : length (frame_bytes payload) ≡ 9 + length payload = omega arith in
    omega (arith, ap length more, length-append (flat_map frame_bytes list) (frame_bytes payload), frame)

opened : (file : List ℕ) (head : List ℕ) (list : List (List ℕ)) (at : ℕ) (payload rest : List ℕ) → file ≡ front head list ++ 1 ∷ (body_bytes payload ++ rest) → length head ≡ 17 → at ≡ 17 + length (flat_map frame_bytes list)
    → Frames file head (list ++ payload ∷ []) (at + 9 + length payload)
opened file head list at payload rest split header place = record {
  gate = 0;
  rest = rest;
  split = split ∙ joined head list payload rest;
  shut = omega arith;
  header = header;
  place = omega (arith, place, longer list payload);
}

-- the frame stands whole in each outcome of the second write
pub torn_gate : (file new : List ℕ) (head : List ℕ) (list : List (List ℕ)) (at : ℕ) (payload : List ℕ) → Staged file head list at payload → Torn at 1 file new
    → Frames new head list at ⊎ Frames new head (list ++ payload ∷ []) (at + 9 + length payload)
torn_gate file new head list at payload was torn =
    let pre = front head list in
    let behind = body_bytes payload ++ was.rest in
    let long = size head list at was.header was.place in
    let gate = get_or new at 0 in
    let there : at + 1 ≤ length new = omega (arith, long, ap length was.split, length-append pre (was.gate ∷ behind), torn.no_shorter) in
    let before : take at new ≡ pre = torn.before ∙ ap (λ (l : List ℕ). take at l) was.split ∙ take_at pre (was.gate ∷ behind) at long in
    let after : drop at new ≡ gate ∷ behind = drop_more new at 0 (omega (arith, there)) ∙ ap (λ (l : List ℕ). gate ∷ l) (torn.after ∙ drop_front file pre was.gate behind at was.split long) in
    let split : new ≡ pre ++ gate ∷ behind = sym (take-append-drop at new) ∙ ap (λ (l : List ℕ). l ++ drop at new) before ∙ ap (λ (l : List ℕ). pre ++ l) after in
    elim (cases_eq gate 1) [
      | inl is_open ↦ inr (opened new head list at payload was.rest (split ∙ ap (λ (x : ℕ). pre ++ x ∷ behind) is_open) was.header was.place)
      | inr shut ↦ inl (record { gate = gate; rest = behind; split = split; shut = shut; header = was.header; place = was.place })
    ]

pub written_gate : (file new : List ℕ) (head : List ℕ) (list : List (List ℕ)) (at : ℕ) (payload : List ℕ) → Staged file head list at payload → Holds file at (1 ∷ []) new → Frames new head (list ++ payload ∷ []) (at + 9 + length payload)
written_gate file new head list at payload was holds =
    let pre = front head list in
    let behind = body_bytes payload ++ was.rest in
    let long = size head list at was.header was.place in
    let split : new ≡ pre ++ 1 ∷ behind =
    holds
    ∙ ap (λ (l : List ℕ). l ++ (1 ∷ []) ++ drop (at + 1) file) (ap (λ (l : List ℕ). take at l) was.split ∙ take_at pre (was.gate ∷ behind) at long)
    ∙ ap (λ (l : List ℕ). pre ++ (1 ∷ []) ++ l) (drop_front file pre was.gate behind at was.split long)
    ∙ append_assoc pre (1 ∷ []) behind in
    opened new head list at payload was.rest split was.header was.place
