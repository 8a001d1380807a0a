-- A list that is joined item by item.
use Rattle.std.proofs.Common.{◌≡◌, ◌+◌, ◌<◌, ℕ, List, [], ◌∷◌, ◌++◌, length, get_or, take, refl, ap, sym, ◌∙◌, append_assoc, append-nil, arith}
use Rattle.std.proofs.lemmas.Grind.{flat_map-append}
use Rattle.std.proofs.lemmas.List.{take_more}
use Rattle.std.specs.List.{flat_map, join_by}

-- what stands before the next item
abbrev pub separator_after : {X : Type 0} → List ℕ → List X → List ℕ
separator_after sep [] = []
separator_after sep (x ∷ xs) = sep

join_by-push : {X : Type 0} (f : X → List ℕ) (sep : List ℕ) (xs : List X) (y : X) → join_by f sep xs ++ (separator_after sep xs ++ f y) ≡ join_by f sep (xs ++ y ∷ [])
join_by-push f sep [] y = sym (append-nil (f y))
join_by-push {X = X} f sep (x ∷ xs) y =
    let g : X → List ℕ = λ z. sep ++ f z in
    append_assoc (f x) (flat_map g xs) (sep ++ f y) ∙ ap (λ (l : List ℕ). f x ++ l) (ap (λ (l : List ℕ). flat_map g xs ++ l) (sym (append-nil (sep ++ f y))) ∙ sym (flat_map-append g xs (y ∷ [])))

separator_after-push : {X : Type 0} (sep : List ℕ) (xs : List X) (y : X) → separator_after sep (xs ++ y ∷ []) ≡ sep
separator_after-push sep [] y = refl
separator_after-push sep (x ∷ xs) y = refl

pub separator_after-more : {X : Type 0} (sep : List ℕ) (xs : List X) (i : ℕ) (d : X) → i < length xs → sep ≡ separator_after sep (take (i + 1) xs)
separator_after-more sep xs i d within =
    sym (ap (λ l. separator_after sep l) (take_more xs i d within) ∙ separator_after-push sep (take i xs) (get_or xs i d))

-- one more item behind what stands before it
pub join_by-more : {X : Type 0} (f : X → List ℕ) (sep : List ℕ) (xs : List X) (i : ℕ) (d : X) → i < length xs → join_by f sep (take i xs) ++ (separator_after sep (take i xs) ++ f (get_or xs i d)) ≡ join_by f sep (take (i + 1) xs)
join_by-more f sep xs i d within =
    join_by-push f sep (take i xs) (get_or xs i d) ∙ sym (ap (λ l. join_by f sep l) (take_more xs i d within))

-- the step of a loop that writes what stands before the item, and the item
pub one_more : {X : Type 0} (f : X → List ℕ) (sep : List ℕ) (xs : List X) (i : ℕ) (x : X) (start separator before between after : List ℕ) → i < length xs → x ≡ get_or xs i x → separator ≡ separator_after sep (take i xs) → before ≡ start ++ join_by f sep (take i xs) → between ≡ before ++ separator → after ≡ between ++ f x → (sep ≡ separator_after sep (take (i + 1) xs)) × (after ≡ start ++ join_by f sep (take (i + 1) xs))
one_more f sep xs i x start separator before between after within is s b m a =
    let so_far = join_by f sep (take i xs) in
    let item : f x ≡ f (get_or xs i x) = ap f is in
    let grown : between ≡ (start ++ so_far) ++ separator_after sep (take i xs) = m ∙ (ap (λ (l : List ℕ). l ++ separator) b ∙ ap (λ (l : List ℕ). (start ++ so_far) ++ l) s) in
    let last : after ≡ ((start ++ so_far) ++ separator_after sep (take i xs)) ++ f (get_or xs i x) = a ∙ (ap (λ (l : List ℕ). l ++ f x) grown ∙ ap (λ (l : List ℕ). ((start ++ so_far) ++ separator_after sep (take i xs)) ++ l) item) in
    let turned : ((start ++ so_far) ++ separator_after sep (take i xs)) ++ f (get_or xs i x) ≡ start ++ (so_far ++ (separator_after sep (take i xs) ++ f (get_or xs i x))) = grind (arith, append_assoc) in
    (separator_after-more sep xs i x within, last ∙ (turned ∙ ap (λ (l : List ℕ). start ++ l) (join_by-more f sep xs i x within)))
