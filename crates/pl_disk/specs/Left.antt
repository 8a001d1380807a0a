-- What a crash may leave of one file: its bytes at the last sync, and the ranges written since, each as its place and length.
use Rattle.std.specs.Prelude.{◌<◌, ◌≡◌, ◌⊎◌, ℕ, ◌+◌, ◌≤◌, max, List, [], ◌∷◌, length, get_or}

-- The byte at this place was written since.
abbrev pub IsWritten : ℕ → List (ℕ × ℕ) → Type 0
IsWritten i [] = ⊥
IsWritten i (range ∷ ranges) = ((range.0 ≤ i) × (i < range.0 + range.1)) ⊎ IsWritten i ranges

-- The greatest end of a range.
abbrev pub end_of : List (ℕ × ℕ) → ℕ
end_of [] = 0
end_of (range ∷ ranges) = max (range.0 + range.1) (end_of ranges)

-- Any bytes where something was written, the synced ones elsewhere, and a length between.
pub record IsLeft (synced : List ℕ) (ranges : List (ℕ × ℕ)) (c : List ℕ) : Type 0 where
  pub no_shorter : length synced ≤ length c
  pub no_longer : length c ≤ max (length synced) (end_of ranges)
  pub same : (i : ℕ) → i < length synced → (IsWritten i ranges → ⊥) → get_or c i 0 ≡ get_or synced i 0

-- The length as reads give it, and this byte wherever something was written.
pub record IsFilled (byte : ℕ) (ranges : List (ℕ × ℕ)) (seen c : List ℕ) : Type 0 where
  pub long : length c ≡ length seen
  pub filled : (i : ℕ) → i < length c → IsWritten i ranges → get_or c i 0 ≡ byte
