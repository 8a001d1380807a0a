-- A list that is written item by item.
use Rattle.std.proofs.Common.{◌≡◌, ◌+◌, ◌<◌, ◌≤◌, ◌++◌, ◌∷◌, [], ℕ, List, length, get_or, take, Bool, true, false, refl, sym, ap, ◌∙◌}
use Rattle.std.specs.List.{flat_map, list_all}
use Rattle.std.proofs.lemmas.List.{take_more, take_all, flat_map_more}
use Rattle.std.proofs.lemmas.List.Folds.{list_all_at}

module _ {T : Type 0} (f : T → List ℕ) where
  pub one_pushed : (xs : List T) (i : ℕ) (x : T) (start before after : List ℕ) → i < length xs → x ≡ get_or xs i x → before ≡ start ++ flat_map f (take i xs) → after ≡ before ++ f x → after ≡ start ++ flat_map f (take (i + 1) xs)
  one_pushed xs i x start before after within is was now =
      now ∙ ap (λ (l : List ℕ). l ++ f x) was ∙ flat_map_more f start (take i xs) x
      ∙ ap (λ (l : List T). start ++ flat_map f l) (ap (λ (y : T). take i xs ++ y ∷ []) is ∙ sym (take_more xs i x within))

  pub all_pushed : (xs : List T) (i : ℕ) (start now : List ℕ) → length xs ≤ i → now ≡ start ++ flat_map f (take i xs) → now ≡ start ++ flat_map f xs
  all_pushed xs i start now done is = is ∙ ap (λ (l : List T). start ++ flat_map f l) (take_all i xs done)

pub each_passes : {T : Type 0} (p : T → Bool) (xs : List T) (i : ℕ) (x : T) → list_all p xs ≡ true → i < length xs → x ≡ get_or xs i x → p x ≡ true
each_passes p xs i x all within is = by_test (p x) refl
  where
    by_test : (b : Bool) → p x ≡ b → p x ≡ true
    by_test true e = e
    by_test false e = absurd (let no : true ≡ false = sym all ∙ list_all_at p xs i x within (ap p (sym is) ∙ e) in cc)
