-- The columns of keys, rule by rule.
use Rattle.std.proofs.Common.{◌≡◌, ◌<◌, ◌≤◌, ◌+◌, ◌++◌, ◌∙◌, ℕ, zero, suc, List, [], ◌∷◌, Option, None, Some, drop, get_or, length, refl, sym, ap, drop-cons, add-one, append_assoc, arith}
use Rattle.std.specs.List.{cons_option}
use Rattle.pl_catalog.specs.declared.object.Rule.{Rule}
use Rattle.pl_undo.specs.Database.{key_columns, keys_in}

one_more : (rest : List Rule) (r : Rule) → keys_in (r ∷ rest) ≡ keys_in (r ∷ []) ++ keys_in rest
one_more rest r = split (key_columns r.kind)
  where
    split : (o : Option (List ℕ)) → cons_option o (keys_in rest) ≡ cons_option o [] ++ keys_in rest
    split None = refl
    split (Some columns) = refl

pub keys_step : (rs : List Rule) (i : ℕ) (r : Rule) (done after : List (List ℕ)) → i < length rs → r ≡ get_or rs i r → after ≡ done ++ keys_in (r ∷ [])
    → done ++ keys_in (drop i rs) ≡ keys_in rs → after ++ keys_in (drop (i + 1) rs) ≡ keys_in rs
keys_step rs i r done after lt is on before =
    let rest : List Rule = drop (i + 1) rs in
    let e : drop i rs ≡ r ∷ rest = drop-cons rs i r lt ∙ (ap (λ (x : Rule). x ∷ drop (suc i) rs) (sym is) ∙ ap (λ (n : ℕ). r ∷ drop n rs) (sym (add-one i))) in
    ap (λ (l : List (List ℕ)). l ++ keys_in rest) on
    ∙ (append_assoc done (keys_in (r ∷ [])) (keys_in rest)
    ∙ (ap (λ (l : List (List ℕ)). done ++ l) (sym (one_more rest r))
    ∙ (ap (λ (l : List Rule). done ++ keys_in l) (sym e) ∙ before)))

none_left : (rs : List Rule) (i : ℕ) → length rs ≤ i → keys_in (drop i rs) ≡ []
none_left [] i le = none_of i
  where
    none_of : (i : ℕ) → keys_in (drop i []) ≡ []
    none_of zero = refl
    none_of (suc i) = refl
none_left (r ∷ rs) zero le = absurd (omega (arith, le))
none_left (r ∷ rs) (suc i) le = none_left rs i (omega (arith, le))

nothing_more : (xs : List (List ℕ)) → xs ≡ xs ++ []
nothing_more [] = refl
nothing_more (x ∷ xs) = ap (λ (l : List (List ℕ)). x ∷ l) (nothing_more xs)

pub keys_done : (rs : List Rule) (i : ℕ) (done : List (List ℕ)) → length rs ≤ i → done ++ keys_in (drop i rs) ≡ keys_in rs → done ≡ keys_in rs
keys_done rs i done le before = nothing_more done ∙ (ap (λ (l : List (List ℕ)). done ++ l) (sym (none_left rs i le)) ∙ before)
