-- The first of several that is there, and lists that lose what they gained.
use Rattle.std.proofs.Common.{◌≡◌, ◌∙◌, ◌-◌, ℕ, List, [], ◌∷◌, ◌++◌, length, take, Option, None, Some, true, false, true≢false, refl, sym, ap, arith, length-append}
use Rattle.std.proofs.Math.Seq.{take-append_seam}
use Rattle.std.specs.Option.{option_or}
use Rattle.std.specs.Prelude.{is_some}

pub or_assoc : {A : Type 0} (a b c : Option A) → option_or (option_or a b) c ≡ option_or a (option_or b c)
or_assoc None b c = refl
or_assoc (Some x) b c = refl

pub or_none : {A : Type 0} (a : Option A) → option_or a None ≡ a
or_none None = refl
or_none (Some x) = refl

pub or_some : {A : Type 0} (a b : Option A) → is_some a ≡ true → option_or a b ≡ a
or_some None b e = absurd (true≢false (sym e))
or_some (Some x) b e = refl

pub or_next : {A : Type 0} (a b : Option A) → is_some a ≡ false → option_or a b ≡ b
or_next None b e = refl
or_next (Some x) b e = absurd (true≢false e)

-- the last one goes again
pub left_again : {A : Type 0} (xs : List A) (x : A) → take (length (xs ++ x ∷ []) - 1) (xs ++ x ∷ []) ≡ xs
left_again xs x =
    let shorter : length (xs ++ x ∷ []) - 1 ≡ length xs = omega (arith, length-append xs (x ∷ [])) in
    ap (λ (n : ℕ). take n (xs ++ x ∷ [])) shorter ∙ take-append_seam xs (x ∷ [])

pub ruleset nearest = (or_assoc, or_none)

pub ruleset options = (or_some, or_next, or_none, left_again)
