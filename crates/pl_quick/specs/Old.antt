-- What variables were, the newest last, and what is so undone.
use Rattle.std.specs.Prelude.{◌≡◌, ℕ, List, [], ◌∷◌, Option, Some, None, slice_get, slice_set}
use Rattle.pl_base.specs.declared.value.Value.{Value}
use Rattle.pl_base.specs.declared.value.Value.TheVariants.{Null}
use Rattle.pl_direct.specs.Known.{value_of}
use Rattle.pl_direct.specs.declared.known.Known.{Known}
use Rattle.pl_quick.specs.declared.old.Old.{Old}
use Rattle.pl_quick.specs.declared.scratch.Scratch.{Scratch}

abbrev pub old_value : Option Known → Value
old_value None = Null
old_value (Some k) = value_of k

-- the variable of this place has the value that is kept
abbrev pub IsOld : Old → ℕ → List Value → Type 0
IsOld o column row =
    (o.column ≡ column) × (slice_get row column ≡ Some (old_value o.value))

-- the values of variables, with the newest put back first
abbrev pub undone : List Old → List Value → List Value
undone [] row = row
undone (o ∷ os) row = slice_set (undone os row) o.column (old_value o.value)

abbrev pub undone_in : Scratch → List Value
undone_in s = undone s.olds.items s.values

-- what is kept leads back to the same values
abbrev pub Tracked : (old new : Scratch) → Type 0
Tracked old new = undone_in new ≡ undone_in old
