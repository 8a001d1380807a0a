-- Numbers at places. A place has a number or none, and no number is at two places.
use Rattle.std.specs.Prelude.{◌≡◌, ◌≢◌, ◌<◌, ◌↔◌, ℕ, List, Option, Some, slice_get}
use Rattle.pl_history.specs.History.{History}

-- the number of each place, with a history, and how many numbers there are
pub record Paired : Type 0 where
  pub numbers : History (List (Option ℕ))
  pub count : ℕ

-- the number is at no place
abbrev pub IsFree : ℕ → List (Option ℕ) → Type 0
IsFree number numbers = (at : ℕ) → slice_get numbers at ≢ Some (Some number)

-- the number is at this place or at none
abbrev pub IsFreeBeside : ℕ → ℕ → List (Option ℕ) → Type 0
IsFreeBeside at number numbers = (p : ℕ) → slice_get numbers p ≡ Some (Some number) → p ≡ at

-- what stands at a place of the one list is where that place stands in the other one
abbrev pub Inverse : List (Option ℕ) → List (Option ℕ) → Type 0
Inverse numbers places =
    (at n : ℕ) → (slice_get numbers at ≡ Some (Some n)) ↔ (slice_get places n ≡ Some (Some at))

-- no number is at two places, and each is below the count
pub record Fits (count : ℕ) (numbers : List (Option ℕ)) : Type 0 where
  pub below : (at n : ℕ) → slice_get numbers at ≡ Some (Some n) → n < count
  pub apart : (at p n : ℕ) → slice_get numbers at ≡ Some (Some n)
      → slice_get numbers p ≡ Some (Some n) → at ≡ p
