-- Keys of which some are changed.
use Rattle.std.proofs.Common.{◌≡◌, ◌≤◌, ◌<◌, ◌+◌, ◌++◌, ℕ, zero, suc, List, [], ◌∷◌, length, map, take, get_or, Option, Some, refl, sym, ap, subst, ◌∙◌, add-one, arith}
use Rattle.std.specs.List.{slice_get, slice_set, AllByRecursion}
use Rattle.std.specs.Option.{ForSome}
use Rattle.pl_unique.specs.declared.row_keys.Key.{Key}
use Rattle.pl_unique.specs.RowKeys.{columns_of, partly, with_key}

module _ (change : Key → Key) where
  pub partly_next : (n : ℕ) (ks : List Key) → with_key (partly change n ks) n change ≡ partly change (suc n) ks
  partly_next zero [] = refl
  partly_next zero (k ∷ ks) = refl
  partly_next (suc n) [] = refl
  partly_next (suc n) (k ∷ ks) = ap (λ (l : List Key). change k ∷ l) (partly_next n ks)

  pub partly_on : (n : ℕ) (ks : List Key) → with_key (partly change n ks) n change ≡ partly change (n + 1) ks
  partly_on n ks = partly_next n ks ∙ ap (λ (m : ℕ). partly change m ks) (sym (add-one n))

  pub partly_all : (ks : List Key) → partly change (length ks) ks ≡ map change ks
  partly_all [] = refl
  partly_all (k ∷ ks) = ap (λ (l : List Key). change k ∷ l) (partly_all ks)

  pub partly_get : (n : ℕ) (ks : List Key) → slice_get (partly change n ks) n ≡ slice_get ks n
  partly_get zero ks = refl
  partly_get (suc n) [] = refl
  partly_get (suc n) (k ∷ ks) = partly_get n ks

  pub length_partly : (n : ℕ) (ks : List Key) → length (partly change n ks) ≡ length ks
  length_partly zero ks = refl
  length_partly (suc n) [] = refl
  length_partly (suc n) (k ∷ ks) = ap suc (length_partly n ks)

  pub partly_back : (undo : Key → Key) → ((k : Key) → undo (change k) ≡ k) → (n : ℕ) (ks : List Key) → partly undo n (partly change n ks) ≡ ks
  partly_back undo is zero ks = refl
  partly_back undo is (suc n) [] = refl
  partly_back undo is (suc n) (k ∷ ks) =
      ap (λ (x : Key). x ∷ partly undo n (partly change n ks)) (is k) ∙ ap (λ (l : List Key). k ∷ l) (partly_back undo is n ks)

  pub key_set : (ks : List Key) (at : ℕ) (k : Key) → slice_get ks at ≡ Some k → slice_set ks at (change k) ≡ with_key ks at change
  key_set [] at k is = refl
  key_set (x ∷ ks) zero k is = ap (λ (y : Key). change y ∷ ks) (let e : Some k ≡ Some x = sym is in cc)
  key_set (x ∷ ks) (suc at) k is = ap (λ (l : List Key). x ∷ l) (key_set ks at k is)

module _ (P : Key → Type 0) where
  pub key_at : (ks : List Key) (n : ℕ) (k : Key) → AllByRecursion P ks → slice_get ks n ≡ Some k → P k
  key_at [] n k all is = absurd cc
  key_at (x ∷ xs) zero k all is = subst P (let e : Some x ≡ Some k = is in cc) all.0
  key_at (x ∷ xs) (suc n) k all is = key_at xs n k all.1 is

  pub none_of : (ks : List Key) → AllByRecursion P (take 0 ks)
  none_of [] = tt
  none_of (k ∷ ks) = tt

  pub one_more : (n : ℕ) (ks : List Key) → AllByRecursion P (take n ks) → ForSome (slice_get ks n) P → AllByRecursion P (take (suc n) ks)
  one_more zero [] all some = tt
  one_more zero (k ∷ []) all some = (some k refl, tt)
  one_more zero (k ∷ j ∷ ks) all some = (some k refl, tt)
  one_more (suc n) [] all some = tt
  one_more (suc n) (k ∷ ks) all some = (all.0, one_more n ks all.1 some)

  pub one_on : (n : ℕ) (ks : List Key) → AllByRecursion P (take n ks) → ForSome (slice_get ks n) P → AllByRecursion P (take (n + 1) ks)
  one_on n ks all some = subst (λ (m : ℕ). AllByRecursion P (take m ks)) (sym (add-one n)) (one_more n ks all some)

  pub all_of : (n : ℕ) (ks : List Key) → length ks ≤ n → AllByRecursion P (take n ks) → AllByRecursion P ks
  all_of n [] le all = tt
  all_of zero (k ∷ ks) le all = absurd (omega (arith, le))
  all_of (suc n) (k ∷ ks) le all = (all.0, all_of n ks (omega (arith, le)) all.1)

pub key_there : (ks : List Key) (n : ℕ) → n < length ks → (k : Key) × (slice_get ks n ≡ Some k)
key_there [] n lt = absurd (omega (arith, lt))
key_there (k ∷ ks) zero lt = (k, refl)
key_there (k ∷ ks) (suc n) lt = key_there ks n (omega (arith, lt))

pub columns_more : (ks : List Key) (k : Key) → columns_of (ks ++ k ∷ []) ≡ columns_of ks ++ k.columns.items ∷ []
columns_more [] k = refl
columns_more (x ∷ ks) k = ap (λ (l : List (List ℕ)). x.columns.items ∷ l) (columns_more ks k)

pub take_more : {A : Type 0} (xs : List A) (n : ℕ) (x : A) → slice_get xs n ≡ Some x → take (suc n) xs ≡ take n xs ++ x ∷ []
take_more [] n x is = absurd cc
take_more (y ∷ []) zero x is = ap (λ z. z ∷ []) (let e : Some y ≡ Some x = is in cc)
take_more (y ∷ z ∷ xs) zero x is = ap (λ w. w ∷ []) (let e : Some y ≡ Some x = is in cc)
take_more (y ∷ xs) (suc n) x is = ap (λ l. y ∷ l) (take_more xs n x is)

pub take_all : {A : Type 0} (xs : List A) (n : ℕ) → length xs ≤ n → take n xs ≡ xs
take_all [] zero le = refl
take_all [] (suc n) le = refl
take_all (x ∷ xs) zero le = absurd (omega (arith, le))
take_all (x ∷ xs) (suc n) le = ap (λ l. x ∷ l) (take_all xs n (omega (arith, le)))

-- a key more
pub columns_on : (ks after : List Key) (columns : List (List ℕ)) (n : ℕ) (k : Key) (places default : List ℕ) → after ≡ ks ++ k ∷ [] → columns_of ks ≡ take n columns → n < length columns → places ≡ get_or columns n default → k.columns.items ≡ places
    → columns_of after ≡ take (n + 1) columns
columns_on ks after columns n k places default is before lt has own =
    ap columns_of is ∙ (columns_more ks k ∙ (ap (λ (l : List (List ℕ)). l ++ k.columns.items ∷ []) before ∙ (ap (λ (p : List ℕ). take n columns ++ p ∷ []) own
    ∙ (sym (take_more columns n places (read_at columns n default places lt has)) ∙ ap (λ (m : ℕ). take m columns) (sym (add-one n))))))
  where
    read_at : (xs : List (List ℕ)) (n : ℕ) (d x : List ℕ) → n < length xs → x ≡ get_or xs n d → slice_get xs n ≡ Some x
    read_at [] n d x lt is = absurd (omega (arith, lt))
    read_at (y ∷ xs) zero d x lt is = ap (λ (z : List ℕ). let o : Option (List ℕ) = Some z in o) (sym is)
    read_at (y ∷ xs) (suc n) d x lt is = read_at xs n d x (omega (arith, lt)) is
