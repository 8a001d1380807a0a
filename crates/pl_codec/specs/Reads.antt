-- What the calls that read a payload from its front do.
use Rattle.std.specs.Prelude.{◌≡◌, ℕ, List, ◌++◌, Option, Some, None, Bool, true}
use Rattle.pl_codec.specs.Reading.{Front}

-- it was in front, and this is left; or it wasn't
abbrev pub Reads : {T : Type 0} → Front T → Option T → List ℕ → Type 0
Reads front (Some x) left = front ≡ Some (x, left)
Reads front None left = front ≡ None

-- what was read is spelled by the bytes that were taken
abbrev pub Takes : {T : Type 0} → (T → List ℕ) → (T → Bool)
    → List ℕ → Option T → List ℕ → Type 0
Takes spelling is_stored old (Some x) left = (old ≡ spelling x ++ left) × (is_stored x ≡ true)
Takes spelling is_stored old None left = Unit {0}
