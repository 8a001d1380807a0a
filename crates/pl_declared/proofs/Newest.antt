-- The newest block, and the variables that are left without those behind it.
use Rattle.std.proofs.Common.{◌≡◌, ◌∙◌, ◌-◌, ℕ, List, [], ◌∷◌, ◌++◌, length, take, min, refl, ap, arith}
use Rattle.std.proofs.lemmas.List.{take_min}
use Rattle.pl_world.specs.pl_names.declared.scope.Seen.{Seen}
use Rattle.pl_world.specs.pl_names.declared.scope.Visible.{Visible}
use Rattle.pl_world.specs.Variables.{visible, with_variable}

pub declared_last : (v : Seen) (bs : List Visible) (b : Visible) → bs ++ visible b.label (b.variables ++ v ∷ []) ∷ [] ≡ with_variable v (bs ++ b ∷ [])
declared_last v [] b = refl
declared_last v (c ∷ []) b = refl
declared_last v (c ∷ d ∷ bs) b = ap (λ (es : List Visible). c ∷ es) (declared_last v (d ∷ bs) b)

-- without what is beyond the first n
pub within : {A : Type 0} (n : ℕ) (xs : List A) → take (length xs - (length xs - n)) xs ≡ take n xs
within n xs =
    let shorter : length xs - (length xs - n) ≡ min n (length xs) = omega arith in
    ap (λ (k : ℕ). take k xs) shorter ∙ take_min n xs
