-- One file of a store as bytes: a gate, a header, and frames behind gates of their own. Numbers are
-- big-endian. A gate is open where it is 1, and closed where it is anything else.
use Rattle.std.specs.Prelude.{◌≡◌, ◌≢◌, ◌==◌, ◌&&◌, ℕ, zero, suc, ◌+◌, List, [], ◌∷◌, ◌++◌, length, take, drop, codes, Bool, nat_lt, nat_eq, slice_index, Option, Some, None, Result, Ok, Err, if◌then◌else◌}
use Rattle.std.specs.Cmp.Lexicographic.{pointwise}
use Rattle.std.specs.Int.{to_be_bytes, from_be_bytes, w64}
use Rattle.std.specs.List.{flat_map}

-- the word behind the gate of an area
abbrev pub magic : List ℕ
magic = codes "PLPGST01"

-- bytes 1 to 16 of an area: the word and the generation
abbrev pub header_bytes : ℕ → List ℕ
header_bytes generation = magic ++ to_be_bytes w64 generation

-- an area of no byte or one, or whose byte 0 isn't 1, is closed
abbrev pub is_open : List ℕ → Bool
is_open file = nat_lt 1 (length file) && slice_index file 0 == 1

-- an open area has at least 18 bytes and the word, or it is malformed
abbrev pub has_header : List ℕ → Bool
has_header file = nat_lt 17 (length file) && pointwise nat_eq (take 8 (drop 1 file)) magic

-- an open frame up to its next gate: the gate, the payload's length, the payload
abbrev pub frame_bytes : List ℕ → List ℕ
frame_bytes payload = 1 ∷ (to_be_bytes w64 (length payload) ++ payload)

-- what stands behind a frame's gate: the payload's length, the payload and a closed gate
abbrev pub body_bytes : List ℕ → List ℕ
body_bytes payload = to_be_bytes w64 (length payload) ++ payload ++ 0 ∷ []

-- 17 bytes, then open frames of these payloads, and then at this place a gate that isn't open
pub record Frames (file : List ℕ) (head : List ℕ) (list : List (List ℕ)) (at : ℕ) : Type 0 where
  pub gate : ℕ
  pub rest : List ℕ
  pub split : file ≡ head ++ flat_map frame_bytes list ++ gate ∷ rest
  pub shut : gate ≢ 1
  pub header : length head ≡ 17
  pub place : at ≡ 17 + length (flat_map frame_bytes list)

-- one more frame before those, with what its payload reads as; or the place of its gate, where that reads as nothing
abbrev pub found : {T : Type 0} → ℕ → Option T → Result (List (ℕ × T)) ℕ → Result (List (ℕ × T)) ℕ
found at None rest = Err at
found at (Some x) (Ok frames) = Ok ((at, x) ∷ frames)
found at (Some x) (Err place) = Err place

-- what open frames of these payloads read as, the first of which has its gate at this place
abbrev pub read_all : {T : Type 0} → (List ℕ → Option T) → ℕ → List (List ℕ) → Result (List (ℕ × T)) ℕ
read_all read at [] = Ok []
read_all read at (p ∷ list) = found at (read p) (read_all read (at + 9 + length p) list)

-- The frames from the gate at a place on, while the gate is open, each as the place of its gate and what its payload reads as. Or the
-- place of the gate of the first frame that doesn't lie in the file together with its next gate, or whose payload reads as nothing.
-- (The first number only bounds the count of frames: there are no more of them than bytes.)
unfoldable pub frames_from : {T : Type 0} → (List ℕ → Option T) → ℕ → List ℕ → ℕ → Result (List (ℕ × T)) ℕ
frames_from read zero file at = Err at
frames_from read (suc more) file at =
    let size = from_be_bytes w64 (take 8 (drop (at + 1) file)) in
    let payload = take size (drop (at + 9) file) in
    if slice_index file at == 1
    then (if nat_lt (at + 9 + size) (length file)
    then found at (read payload) (frames_from read more file (at + 9 + size))
    else Err at)
    else Ok []
