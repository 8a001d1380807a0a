-- The names of tables that were found.
use Rattle.std.proofs.Common.{◌≡◌, ◌<◌, sym, ◌∙◌, subst, ℕ, true, List, [], ◌∷◌, ◌++◌, Contains, get_or, length, nat_eq, OnOk, Result, Ok, Err}
use Rattle.std.proofs.lemmas.List.Elements.{Contains-append_left, Contains-get_or, Contains-push}
use Rattle.std.specs.Cmp.Lexicographic.{bytes_decides, pointwise}
use Rattle.pl_inside.specs.Agreement.{AgreeOn, Covers}
use Rattle.pl_query.specs.Sources.{Tables}

-- one that equals the name
pub is_there : (names : List (List ℕ)) (i : ℕ) (known name : List ℕ) → i < length names → known ≡ get_or names i known → pointwise nat_eq known name ≡ true → Contains names name
is_there names i known name lt is same =
    subst (λ (n : List ℕ). Contains names n) (sym is ∙ (bytes_decides known name).0 same) (Contains-get_or names i known lt)

pub no_more : (names list : List (List ℕ)) (name : List ℕ) → list ≡ names → Contains list name → Covers names names (λ one other. one name ≡ other name)
no_more names list name is found one other agree = (agree, agree name (subst (λ (ns : List (List ℕ)). Contains ns name) is found))

pub one_more : (names new : List (List ℕ)) (name : List ℕ) → new ≡ names ++ name ∷ [] → Covers names new (λ one other. one name ≡ other name)
one_more names new name is one other agree =
    let all : AgreeOn (names ++ name ∷ []) one other = subst (λ (ns : List (List ℕ)). AgreeOn ns one other) is agree in
    (λ n found. all n (Contains-append_left names (name ∷ []) n found), all name (Contains-push names name))

-- what follows from one thing in which tables are alike
pub covers_so : {T E : Type 0} (old new : List (List ℕ)) (P Q : Tables → Tables → Type 0) (r : Result T E) → ((one other : Tables) → P one other → Q one other) → OnOk r (Covers old new P) → OnOk r (Covers old new Q)
covers_so old new P Q (Ok x) so covers = λ one other agree. (let here = covers one other agree in (here.0, so one other here.1))
covers_so old new P Q (Err e) so covers = tt
