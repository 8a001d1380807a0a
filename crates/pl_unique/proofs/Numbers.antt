-- Keys at places, by their numbers.
use Rattle.std.proofs.Common.{◌≡◌, ◌≤◌, ◌<◌, ◌-◌, ◌↔◌, ℕ, zero, suc, List, [], ◌∷◌, ◌++◌, length, map, take, Option, None, Some, Result, Ok, Err, refl, sym, ap, subst, ◌∙◌, arith}
use Rattle.std.specs.List.{slice_get, slice_set, AllByRecursion}
use Rattle.std.specs.Option.{ForSome}
use Rattle.std.specs.Result.{OnErr}
use Rattle.pl_history.specs.History.{History, back, changed, last_or, seen_as}
use Rattle.pl_history.specs.HistoryLaws.{all_more, seen_changed}
use Rattle.pl_unique.specs.declared.key.Part.{Part}
use Rattle.pl_unique.specs.Numbered.{known, keys_at, Known}
use Rattle.pl_unique.proofs.Same.{map_at, at_map}

abbrev Numbers : Type 0
Numbers = List (Option ℕ)

abbrev KeyList : Type 0
KeyList = List (List Part)

-- a number and the key that it stands for
module _ (keys : KeyList) (key : List Part) where
  pub has_key : (numbers : Numbers) (n at : ℕ) → slice_get keys n ≡ Some key → slice_get numbers at ≡ Some (Some n) → slice_get (keys_at keys numbers) at ≡ Some (Some key)
  has_key numbers n at is has = map_at (known keys) numbers at (Some n) has ∙ ap (λ (o : Option (List Part)). let r : Option (Option (List Part)) = Some o in r) is

  numbered : (o : Option ℕ) → known keys o ≡ Some key → (n : ℕ) × (o ≡ Some n) × (slice_get keys n ≡ Some key)
  numbered None is = absurd cc
  numbered (Some n) is = (n, refl, is)

  pub number_there : (numbers : Numbers) (at : ℕ) → slice_get (keys_at keys numbers) at ≡ Some (Some key) → (n : ℕ) × (slice_get numbers at ≡ Some (Some n)) × (slice_get keys n ≡ Some key)
  number_there numbers at is =
      let h = at_map (known keys) numbers at (Some key) is in
      let n = numbered h.0 h.2 in
      (n.0, h.1 ∙ ap (λ (o : Option ℕ). let r : Option (Option ℕ) = Some o in r) n.1, n.2)

  pub found : (numbers : Numbers) (number : ℕ) (place : Option ℕ) → ((n : ℕ) → (let o : Option ℕ = Some number in o ≡ Some n) ↔ (slice_get keys n ≡ Some key)) → ((at : ℕ) → (place ≡ Some at) ↔ (slice_get numbers at ≡ Some (Some number)))
      → (at : ℕ) → (place ≡ Some at) ↔ (slice_get (keys_at keys numbers) at ≡ Some (Some key))
  found numbers number place of placed at = (
    λ e. has_key numbers number at ((of number).0 refl) ((placed at).0 e),
    λ e. (let h = number_there numbers at e in
        let same : number ≡ h.0 = (let s : Some number ≡ Some h.0 = (of h.0).1 h.2 in cc) in
        (placed at).1 (h.1 ∙ ap (λ (n : ℕ). let r : Option (Option ℕ) = Some (Some n) in r) (sym same))),
  )

  pub missing : (numbers : Numbers) → ((n : ℕ) → (let o : Option ℕ = None in o ≡ Some n) ↔ (slice_get keys n ≡ Some key))
      → (at : ℕ) → (let o : Option ℕ = None in o ≡ Some at) ↔ (slice_get (keys_at keys numbers) at ≡ Some (Some key))
  missing numbers of at = (
    λ e. absurd (let s : (let o : Option ℕ = None in o ≡ Some at) = e in cc),
    λ e. (let h = number_there numbers at e in absurd (let s : (let o : Option ℕ = None in o ≡ Some h.0) = (of h.0).1 h.2 in cc)),
  )

-- more keys
module _ (old new : KeyList) (kept : (n : ℕ) → n < length old → slice_get new n ≡ slice_get old n) where
  same_keys : (numbers : Numbers) → Known (length old) numbers → keys_at new numbers ≡ keys_at old numbers
  same_keys [] below = refl
  same_keys (None ∷ ns) below = ap (λ (ks : List (Option (List Part))). None ∷ ks) (same_keys ns (λ at n is. below (suc at) n is))
  same_keys (Some n ∷ ns) below =
      ap (λ (k : Option (List Part)). k ∷ keys_at new ns) (kept n (below 0 n refl))
      ∙ ap (λ (ks : List (Option (List Part))). slice_get old n ∷ ks) (same_keys ns (λ at m is. below (suc at) m is))

  same_past : (past : List Numbers) → AllByRecursion (Known (length old)) past → map (keys_at new) past ≡ map (keys_at old) past
  same_past [] all = refl
  same_past (ns ∷ past) all =
      ap (λ (ks : List (Option (List Part))). ks ∷ map (keys_at new) past) (same_keys ns all.0)
      ∙ ap (λ (rest : List (List (Option (List Part)))). keys_at old ns ∷ rest) (same_past past all.1)

  pub same_view : (h : History Numbers) → AllByRecursion (Known (length old)) (h.current ∷ h.past) → seen_as (keys_at new) h ≡ seen_as (keys_at old) h
  same_view h all =
      ap (λ (c : List (Option (List Part))). record { current = c; past = map (keys_at new) h.past }) (same_keys h.current all.0)
      ∙ ap (λ (p : List (List (Option (List Part)))). record { current = keys_at old h.current; past = p }) (same_past h.past all.1)

pub keys_more : (keys : KeyList) (numbers : Numbers) (o : Option ℕ) → keys_at keys (numbers ++ o ∷ []) ≡ keys_at keys numbers ++ known keys o ∷ []
keys_more keys [] o = refl
keys_more keys (n ∷ ns) o = ap (λ (ks : List (Option (List Part))). known keys n ∷ ks) (keys_more keys ns o)

pub keys_set : (keys : KeyList) (numbers : Numbers) (at : ℕ) (o : Option ℕ) → keys_at keys (slice_set numbers at o) ≡ slice_set (keys_at keys numbers) at (known keys o)
keys_set keys [] at o = refl
keys_set keys (n ∷ ns) zero o = refl
keys_set keys (n ∷ ns) (suc at) o = ap (λ (ks : List (Option (List Part))). known keys n ∷ ks) (keys_set keys ns at o)

pub all_wider : (n m : ℕ) → n ≤ m → (states : List Numbers) → AllByRecursion (Known n) states → AllByRecursion (Known m) states
all_wider n m le [] all = all
all_wider n m le (ns ∷ rest) all = (λ at k is. (let h : k < n = all.0 at k is in omega (arith, h, le)), all_wider n m le rest all.1)

pub known_push : (count : ℕ) (ns : Numbers) (o : Option ℕ) → ForSome o (λ (n : ℕ). n < count) → Known count ns → Known count (ns ++ o ∷ [])
known_push count [] o below all zero n is = below n (let e : Some o ≡ Some (Some n) = is in cc)
known_push count [] o below all (suc at) n is = absurd cc
known_push count (m ∷ ns) o below all zero n is = all 0 n is
known_push count (m ∷ ns) o below all (suc at) n is = known_push count ns o below (λ p k e. all (suc p) k e) at n is

pub known_set : (count : ℕ) (ns : Numbers) (p : ℕ) (o : Option ℕ) → ForSome o (λ (n : ℕ). n < count) → Known count ns → Known count (slice_set ns p o)
known_set count [] p o below all at n is = all at n is
known_set count (m ∷ ns) zero o below all zero n is = below n (let e : Some o ≡ Some (Some n) = is in cc)
known_set count (m ∷ ns) zero o below all (suc at) n is = all (suc at) n is
known_set count (m ∷ ns) (suc p) o below all zero n is = all 0 n is
known_set count (m ∷ ns) (suc p) o below all (suc at) n is = known_set count ns p o below (λ q k e. all (suc q) k e) at n is

module _ {A : Type 0} (P : A → Type 0) where
  pub all_changed : (h : History A) (a : A) → AllByRecursion P (h.current ∷ h.past) → P a → AllByRecursion P (a ∷ (h.past ++ h.current ∷ []))
  all_changed h a all p = (p, all_more P h.past h.current all.1 all.0)

  all_take : (n : ℕ) (xs : List A) → AllByRecursion P xs → AllByRecursion P (take n xs)
  all_take zero [] all = all
  all_take zero (x ∷ xs) all = tt
  all_take (suc n) [] all = all
  all_take (suc n) (x ∷ xs) all = (all.0, all_take n xs all.1)

  all_last : (a : A) (xs : List A) → P a → AllByRecursion P xs → P (last_or a xs)
  all_last a [] p all = p
  all_last a (x ∷ xs) p all = all_last x xs all.0 all.1

  pub all_back : (h : History A) → AllByRecursion P (h.current ∷ h.past) → AllByRecursion P ((back h).current ∷ (back h).past)
  all_back h all = (all_last h.current h.past all.0 all.1, all_take (length h.past - 1) h.past all.1)

some_key : (keys : KeyList) (n : ℕ) → n < length keys → (key : List Part) × (slice_get keys n ≡ Some key)
some_key [] n lt = absurd (omega (arith, lt))
some_key (k ∷ ks) zero lt = (k, refl)
some_key (k ∷ ks) (suc n) lt = some_key ks n (omega (arith, lt))

pub on_err : {A E : Type 0} (P : Type 0) (r : Result A E) → P → OnErr r P
on_err P (Ok a) p = tt
on_err P (Err e) p = p

-- a key that was added
pub before_end : (keys : KeyList) (key : List Part) (n : ℕ) → n < length keys → slice_get (keys ++ key ∷ []) n ≡ slice_get keys n
before_end [] key n lt = absurd (omega (arith, lt))
before_end (k ∷ ks) key zero lt = refl
before_end (k ∷ ks) key (suc n) lt = before_end ks key n (omega (arith, lt))

pub at_end : (keys : KeyList) (key : List Part) → slice_get (keys ++ key ∷ []) (length keys) ≡ Some key
at_end [] key = refl
at_end (k ∷ ks) key = at_end ks key

-- where a key was added or is known already
module _ (old new : KeyList) (more : length old ≤ length new) (kept : (n : ℕ) → n < length old → slice_get new n ≡ slice_get old n) where
  -- where its number stands, it stands
  pub stands : (P : ℕ → Type 0) (numbers : Numbers) (key : Option (List Part)) (number : Option ℕ) → Known (length old) numbers
      → ForSome number (λ (n : ℕ). n < length new) → known new number ≡ key
      → ForSome key (λ (v : List Part). (at : ℕ) → slice_get (keys_at old numbers) at ≡ Some (Some v) → P at)
      → ForSome number (λ (n : ℕ). (at : ℕ) → slice_get numbers at ≡ Some (Some n) → P at)
  stands P numbers key number below within is at_places n e at has =
      let k = some_key new n (within n e) in
      let there : key ≡ Some k.0 = sym is ∙ (ap (known new) e ∙ k.1) in
      let was : slice_get old n ≡ Some k.0 = sym (kept n (below at n has)) ∙ k.1 in
      at_places k.0 there at (has_key old k.0 numbers n at was has)

  module _ (h g : History Numbers) (same : g ≡ h) (all : AllByRecursion (Known (length old)) (h.current ∷ h.past)) where
    pub stays : seen_as (keys_at new) g ≡ seen_as (keys_at old) h
    stays = ap (seen_as (keys_at new)) same ∙ same_view old new kept h all

    pub stay_known : AllByRecursion (Known (length new)) (g.current ∷ g.past)
    stay_known = all_wider (length old) (length new) more (g.current ∷ g.past) (subst (λ (k : History Numbers). AllByRecursion (Known (length old)) (k.current ∷ k.past)) (sym same) all)

    module _ (number : Option ℕ) (key : Option (List Part)) (is : known new number ≡ key) (made : History Numbers) where
      pub pushed : made ≡ changed (g.current ++ number ∷ []) g → seen_as (keys_at new) made ≡ changed (keys_at old h.current ++ key ∷ []) (seen_as (keys_at old) h)
      pushed e =
          ap (seen_as (keys_at new)) e
          ∙ (seen_changed (keys_at new) (g.current ++ number ∷ []) g
          ∙ (ap (λ (c : List (Option (List Part))). changed c (seen_as (keys_at new) g)) (keys_more new g.current number ∙ ap (λ (o : Option (List Part)). keys_at new g.current ++ o ∷ []) is)
          ∙ ap (λ (v : History (List (Option (List Part)))). changed (v.current ++ key ∷ []) v) stays))

      pub was_set : (at : ℕ) → made ≡ changed (slice_set g.current at number) g → seen_as (keys_at new) made ≡ changed (slice_set (keys_at old h.current) at key) (seen_as (keys_at old) h)
      was_set at e =
          ap (seen_as (keys_at new)) e
          ∙ (seen_changed (keys_at new) (slice_set g.current at number) g
          ∙ (ap (λ (c : List (Option (List Part))). changed c (seen_as (keys_at new) g)) (keys_set new g.current at number ∙ ap (slice_set (keys_at new g.current) at) is)
          ∙ ap (λ (v : History (List (Option (List Part)))). changed (slice_set v.current at key) v) stays))

      pub pushed_known : ForSome number (λ (n : ℕ). n < length new) → made ≡ changed (g.current ++ number ∷ []) g → AllByRecursion (Known (length new)) (made.current ∷ made.past)
      pushed_known within e =
          subst (λ (k : History Numbers). AllByRecursion (Known (length new)) (k.current ∷ k.past)) (sym e)
          (all_changed (Known (length new)) g (g.current ++ number ∷ []) stay_known (known_push (length new) g.current number within stay_known.0))

      pub set_known : (at : ℕ) → ForSome number (λ (n : ℕ). n < length new) → made ≡ changed (slice_set g.current at number) g → AllByRecursion (Known (length new)) (made.current ∷ made.past)
      set_known at within e =
          subst (λ (k : History Numbers). AllByRecursion (Known (length new)) (k.current ∷ k.past)) (sym e)
          (all_changed (Known (length new)) g (slice_set g.current at number) stay_known (known_set (length new) g.current at number within stay_known.0))
