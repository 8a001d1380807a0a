-- Steps of a walk along a list, of which some is done.
use Rattle.std.proofs.Common.{◌≡◌, refl, sym, ap, ◌∙◌, List, [], ◌∷◌, ◌++◌, map, Option, Some, None, option_map, append_assoc}
use Rattle.std.specs.List.{filter_map}

pub pushed : {A B : Type 0} (view : A → B) (xs : List A) (x : A) → map view (xs ++ x ∷ []) ≡ map view xs ++ view x ∷ []
pushed view [] x = refl
pushed view (y ∷ xs) x = ap (λ l. view y ∷ l) (pushed view xs x)

pub pushed_one : {A : Type 0} (xs : List A) (x : A) (ys : List A) → (xs ++ x ∷ []) ++ ys ≡ xs ++ x ∷ ys
pushed_one xs x ys = append_assoc xs (x ∷ []) ys

pub further : {A : Type 0} (xs ys zs : List A) → (xs ++ ys) ++ zs ≡ xs ++ (ys ++ zs)
further xs ys zs = append_assoc xs ys zs

kept : {A B : Type 0} (f : A → Option B) (x : A) (xs : List A) (y : B) → f x ≡ Some y → filter_map f (x ∷ xs) ≡ y ∷ filter_map f xs
kept f x xs y is = rw is refl

-- an item that gives one of the list
pub taken : {A B C : Type 0} (f : A → Option B) (view : C → B) (done : List C) (c : C) (x : A) (xs : List A) → option_map view (Some c) ≡ f x
    → map view done ++ filter_map f (x ∷ xs) ≡ map view (done ++ c ∷ []) ++ filter_map f xs
taken f view done c x xs is =
    ap (λ l. map view done ++ l) (kept f x xs (view c) (sym is))
    ∙ (sym (pushed_one (map view done) (view c) (filter_map f xs)) ∙ ap (λ l. l ++ filter_map f xs) (sym (pushed view done c)))

-- an item that gives none
pub passed : {A B C : Type 0} (f : A → Option B) (view : C → B) (x : A) (xs : List A) → option_map view (let n : Option C = None in n) ≡ f x → filter_map f (x ∷ xs) ≡ filter_map f xs
passed f view x xs is = rw (← is) refl
