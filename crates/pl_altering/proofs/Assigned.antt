-- Values that are set where none is left.
use Rattle.std.proofs.Common.{◌≡◌, ◌<◌, ℕ, List, [], ◌∷◌, length, refl, arith}
use Rattle.pl_base.specs.declared.value.Value.{Value}
use Rattle.pl_world.specs.pl_change.Changes.{assigned}
use Rattle.pl_value.specs.Frames.{Row}

pub no_values : (columns : List ℕ) (vs : List Value) (row : Row) → length vs < 1 → assigned columns vs row ≡ row
no_values [] vs row lt = refl
no_values (c ∷ columns) [] row lt = refl
no_values (c ∷ columns) (v ∷ vs) row lt = absurd (omega (arith, lt))
