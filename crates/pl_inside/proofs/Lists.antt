-- Lists whose parts are alike.
use Rattle.std.proofs.Common.{◌≡◌, ◌<◌, ◌≤◌, ◌+◌, refl, sym, ap, ap₂, ◌∙◌, ℕ, List, ◌∷◌, map, drop, get_or, length, slice_get, add-one, drop-cons}
use Rattle.std.proofs.lemmas.List.{drop_all}
use Rattle.std.proofs.lemmas.Option.{slice_get-map}
use Rattle.std.specs.Option.{option_map}

front : {A : Type 0} (xs : List A) (i : ℕ) (x : A) → i < length xs → x ≡ get_or xs i x → drop i xs ≡ x ∷ drop (i + 1) xs
front xs i x lt is = rw (add-one, drop-cons xs i x lt, ← is) refl

module _ {A B : Type 0} (f g : A → B) (xs : List A) (i : ℕ) where
  -- a part, and those behind it
  pub next_alike : (x : A) → i < length xs → x ≡ get_or xs i x → f x ≡ g x → map f (drop (i + 1) xs) ≡ map g (drop (i + 1) xs) → map f (drop i xs) ≡ map g (drop i xs)
  next_alike x lt is same rest =
      let here = front xs i x lt is in
      ap (λ (ys : List A). map f ys) here ∙ (ap₂ (λ (y : B) (ys : List B). y ∷ ys) same rest ∙ sym (ap (λ (ys : List A). map g ys) here))

  -- no part is left
  pub none_alike : length xs ≤ i → map f (drop i xs) ≡ map g (drop i xs)
  none_alike le = let none = drop_all i xs le in ap (λ (ys : List A). map f ys) none ∙ sym (ap (λ (ys : List A). map g ys) none)

  -- the part at a place
  pub part_alike : map f xs ≡ map g xs → option_map f (slice_get xs i) ≡ option_map g (slice_get xs i)
  part_alike same = sym (slice_get-map f xs i) ∙ (ap (λ (ys : List B). slice_get ys i) same ∙ slice_get-map g xs i)
