-- What is taken from the back of a list, one after the other.
use Rattle.std.proofs.Common.{◌≡◌, ◌∙◌, sym, ap, List, [], ◌∷◌, ◌++◌, map, reverse, append_assoc}
use Rattle.std.proofs.lemmas.List.{map-append, reverse-append}

pub turn : {A : Type 0} (found old new : List A) (last : A) → old ≡ new ++ last ∷ [] → (found ++ last ∷ []) ++ reverse new ≡ found ++ reverse old
turn {A} found old new last e =
    append_assoc found (last ∷ []) (reverse new)
    ∙ ap (λ (xs : List A). found ++ xs) (sym (reverse-append new (last ∷ [])))
    ∙ ap (λ (xs : List A). found ++ reverse xs) (sym e)

pub map_turn : {A B : Type 0} (f : A → B) (found : List B) (old new : List A) (last : A) → old ≡ new ++ last ∷ [] → (found ++ f last ∷ []) ++ reverse (map f new) ≡ found ++ reverse (map f old)
map_turn f found old new last e = turn found (map f old) (map f new) (f last) (ap (map f) e ∙ map-append f new (last ∷ []))
