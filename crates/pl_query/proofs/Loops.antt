-- Things one after another, from a place on.
use Rattle.std.proofs.Common.{◌≡◌, ◌<◌, ◌≤◌, ◌+◌, sym, ap, ◌∙◌, ℕ, zero, suc, List, [], ◌∷◌, Some, map, drop, get_or, length, slice_get, take, ◌++◌, add-one}
use Rattle.std.proofs.lemmas.List.{drop_all, drop_more, map_more}
use Rattle.std.proofs.lemmas.Option.{get_or_from_slice_get, slice_get_within}
use Rattle.pl_query.proofs.Front.{front}
use Rattle.pl_query.specs.Rows.{in_turn}
use Rattle.pl_value.specs.Reading.{Reading, got, then_read}

pub turn_here : {W A B : Type 0} {whole : Reading W B} (adds : A → B → W → Reading W B) (xs : List A) (i : ℕ) (x y : A) → i < length xs → x ≡ get_or xs i x → y ≡ x → (done : B) (w : W)
    → whole ≡ in_turn adds (drop i xs) done w
    → whole ≡ then_read {A = B} (adds y done w) (λ done w. in_turn adds (drop (i + 1) xs) done w)
turn_here adds xs i x y lt is same done w reads =
    reads ∙ (ap (λ (ys : List _). in_turn adds ys done w) (front xs i x lt is)
    ∙ ap (λ (z : _). then_read (adds z done w) (λ done w. in_turn adds (drop (i + 1) xs) done w)) (sym same))

pub mapped_here : {W A A' B : Type 0} {whole : Reading W B} (f : A' → A) (adds : A → B → W → Reading W B) (xs : List A') (i : ℕ) (x : A') (y : A) → i < length xs → x ≡ get_or xs i x → y ≡ f x → (done : B) (w : W)
    → whole ≡ in_turn adds (map f (drop i xs)) done w
    → whole ≡ then_read {A = B} (adds y done w) (λ done w. in_turn adds (map f (drop (i + 1) xs)) done w)
mapped_here f adds xs i x y lt is same done w reads =
    reads ∙ (ap (λ (ys : List _). in_turn adds (map f ys) done w) (front xs i x lt is)
    ∙ ap (λ (z : _). then_read (adds z done w) (λ done w. in_turn adds (map f (drop (i + 1) xs)) done w)) (sym same))

-- what was got first goes on
pub next : {W A B : Type 0} {whole : Reading W B} (q : Reading W A) (k : A → W → Reading W B) (x : A) (w : W) → whole ≡ then_read q k → q ≡ got x w → whole ≡ k x w
next q k x w is gives = is ∙ ap (λ q. then_read q k) gives

-- a thing that was read by its place
front_at : {A : Type 0} (xs : List A) (i : ℕ) (x : A) → slice_get xs i ≡ Some x → drop i xs ≡ x ∷ drop (suc i) xs
front_at [] i x is = cc
front_at (y ∷ xs) zero x is = let e : y ≡ x = cc in ap (λ z. z ∷ xs) e
front_at (y ∷ xs) (suc i) x is = front_at xs i x is

pub turn_at : {W A B : Type 0} {whole : Reading W B} (adds : A → B → W → Reading W B) (xs : List A) (i : ℕ) (x : A) → slice_get xs i ≡ Some x → (done : B) (w : W)
    → whole ≡ in_turn adds (drop i xs) done w
    → whole ≡ then_read {A = B} (adds x done w) (λ done w. in_turn adds (drop (i + 1) xs) done w)
turn_at adds xs i x is done w reads =
    let e : drop i xs ≡ x ∷ drop (i + 1) xs = rw add-one (front_at xs i x is) in
    reads ∙ ap (λ (ys : List _). in_turn adds ys done w) e

pub turn_or : {W A B : Type 0} {whole : Reading W B} (adds : A → B → W → Reading W B) (xs : List A) (i : ℕ) (d : A) → i < length xs → (done : B) (w : W)
    → whole ≡ in_turn adds (drop i xs) done w
    → whole ≡ then_read {A = B} (adds (get_or xs i d) done w) (λ done w. in_turn adds (drop (i + 1) xs) done w)
turn_or adds xs i d lt done w reads = reads ∙ ap (λ (ys : List _). in_turn adds ys done w) (drop_more xs i d lt)

pub turns_end : {W A B : Type 0} {whole : Reading W B} (adds : A → B → W → Reading W B) (xs : List A) (i : ℕ) → length xs ≤ i → (done : B) (w : W)
    → whole ≡ in_turn adds (drop i xs) done w → whole ≡ got done w
turns_end adds xs i le done w reads = reads ∙ ap (λ (ys : List _). in_turn adds ys done w) (drop_all i xs le)

-- what was made of the things before a place, and of the one there
pub made_at : {A B : Type 0} (f : A → B) (xs : List A) (i : ℕ) (x : A) → slice_get xs i ≡ Some x → (made made' : List B) → made ≡ map f (take i xs) → made' ≡ made ++ f x ∷ [] → made' ≡ map f (take (i + 1) xs)
made_at f xs i x is made made' before more =
    more
    ∙ (ap (λ (ys : List _). ys ++ f x ∷ []) before
    ∙ (ap (λ (y : _). map f (take i xs) ++ f y ∷ []) (sym (get_or_from_slice_get xs i x x is))
    ∙ sym (map_more f xs i x (slice_get_within xs i x is))))
