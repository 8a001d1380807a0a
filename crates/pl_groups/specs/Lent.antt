-- Proofs that other crates' proofs may cite; no definition. What an aggregate gives, and groups with
-- one thing more.
use Rattle.std.proofs.Common.{◌≡◌, refl, sym, ap, ◌∙◌, subst, ℕ, suc, zero, ◌+◌, ◌-◌, ◌<◌, ◌≤◌, ℤ, pos, ◌+ℤ◌, Bool, true, false, not, ◌&&◌, ◌||◌, cond, nat_lt, nat_le, if◌then◌else◌, List, [], ◌∷◌, ◌++◌, length, map, filter, fold, take, get_or, set, Option, Some, None, Ok, option_map, slice_get, unwrap_or, append_assoc, arith}
use Rattle.std.proofs.lemmas.Bool.{false≢true, lt-ltb, le-ltb, leb-true, leb-false, lt-leb}
use Rattle.std.proofs.lemmas.Grind.{flat_map-append}
use Rattle.std.proofs.lemmas.List.{append-nil, length-map, length-take, map-set, take_all}
use Rattle.std.proofs.lemmas.List.Elements.{filter-append}
use Rattle.std.proofs.Math.IntN.{+ℤ_idl}
use Rattle.std.specs.List.{flat_map, list_all, list_any, zip}
use Rattle.pl_base.specs.declared.value.Value.{Value}
use Rattle.pl_calc.specs.Answer.{Answer}
use Rattle.pl_calc.specs.Casts.{text_limit, text_within}
use Rattle.pl_calc.specs.Logic.{is_null}
use Rattle.pl_calc.specs.Numbers.{bigint}
use Rattle.pl_groups.specs.Aggregates.{aggregated, all_of, any_of, earlier, extreme, given, is_given, join, joined, number, sum_of, text, truth}
use Rattle.pl_groups.specs.Groups.{groups}
use Rattle.pl_groups.specs.Tallies.{added, all_with, answer_at, any_with, best_with, column, finished, longer, most, or_null, place_in, put, start, sum_or_null, sum_with, tally_of, text_or_null, truth_or_null, with_added, with_member, with_value}
use Rattle.pl_groups.specs.declared.tally.Tally.{Tally}
use Rattle.pl_groups.specs.declared.tally.Tally.TheVariants as t
use Rattle.pl_keys.specs.Lent.{absent, present, rows_same}
use Rattle.pl_keys.specs.Order.{turned}
use Rattle.pl_keys.specs.Same.{firsts, place_of, same, with_row}
use Rattle.pl_resolved.specs.declared.query.Aggregate.{Aggregate}
use Rattle.pl_resolved.specs.declared.query.Aggregate.TheVariants.{CountRows, Count, Sum, Min, Max, BoolAnd, BoolOr, StringAgg}

abbrev pub Pair : Type 0
Pair = Value × Value

abbrev pub first : Pair → Value
first p = p.0

abbrev pub second : Pair → Value
second p = p.1

-- ---- what passes over nulls

module _ {S : Type 0} (wrap : S → Tally) (step : S → Value → S)
    (one : (s : S) (v o : Value) → added (wrap s) (v, o) ≡ (let made : Tally = if is_null v then wrap s else wrap (step s v) in made)) where
  all_if : (s : S) (p : Pair) (pairs : List Pair) (b : Bool) → is_null p.0 ≡ b
      → ((s : S) → fold added (wrap s) pairs ≡ wrap (fold step s (given (map first pairs))))
      → fold added (added (wrap s) p) pairs ≡ wrap (fold step s (cond (not b) (p.0 ∷ given (map first pairs)) (given (map first pairs))))
  all_if s p pairs true is more = ap (λ made. fold added made pairs) (one s p.0 p.1 ∙ ap (λ (b : Bool). let made : Tally = if b then wrap s else wrap (step s p.0) in made) is) ∙ more s
  all_if s p pairs false is more = ap (λ made. fold added made pairs) (one s p.0 p.1 ∙ ap (λ (b : Bool). let made : Tally = if b then wrap s else wrap (step s p.0) in made) is) ∙ more (step s p.0)

  all : (pairs : List Pair) (s : S) → fold added (wrap s) pairs ≡ wrap (fold step s (given (map first pairs)))
  all [] s = refl
  all (p ∷ pairs) s = all_if s p pairs (is_null p.0) refl (all pairs)

rows : (pairs : List Pair) (n : ℕ) → fold added (t.Rows n) pairs ≡ t.Rows (n + length pairs)
rows [] n = let e : n ≡ n + 0 = omega arith in ap t.Rows e
rows (p ∷ pairs) n = let e : n + 1 + length pairs ≡ n + suc (length pairs) = omega arith in rows pairs (n + 1) ∙ ap t.Rows e

counted : (vs : List Value) (n : ℕ) → fold (λ (n : ℕ) (v : Value). n + 1) n vs ≡ n + length vs
counted [] n = omega arith
counted (v ∷ vs) n = let e : n + 1 + length vs ≡ n + suc (length vs) = omega arith in counted vs (n + 1) ∙ e

abbrev plus : ℤ → Value → ℤ
plus sum v = sum +ℤ number v

sums : (vs : List Value) (z : ℤ) → fold (λ (s : Option ℤ) v. Some (sum_with s v)) (Some z) vs ≡ Some (fold plus z vs)
sums [] z = refl
sums (v ∷ vs) z = sums vs (z +ℤ number v)

from_none : (z : ℤ) → z ≡ pos 0 +ℤ z
from_none z = sym (+ℤ_idl z)

summed : (vs : List Value) → sum_or_null (fold (λ (s : Option ℤ) v. Some (sum_with s v)) None vs) ≡ sum_of vs
summed [] = refl
summed (v ∷ vs) = ap sum_or_null (sums vs (number v)) ∙ ap (λ (z : ℤ). bigint (fold plus z vs)) (from_none (number v))

module _ (is_greatest : Bool) where
  bests : (vs : List Value) (best : Value) → fold (λ (s : Option Value) v. Some (best_with is_greatest s v)) (Some best) vs ≡ Some (fold (earlier (turned is_greatest)) best vs)
  bests [] best = refl
  bests (v ∷ vs) best = bests vs (earlier (turned is_greatest) best v)

  best_of : (vs : List Value) → (let a : Answer = Ok (or_null (fold (λ (s : Option Value) v. Some (best_with is_greatest s v)) None vs)) in a) ≡ extreme is_greatest vs
  best_of [] = refl
  best_of (v ∷ vs) = ap (λ (o : Option Value). let a : Answer = Ok (or_null o) in a) (bests vs v)

and_true : (b : Bool) → b ≡ (b && true)
and_true true = refl
and_true false = refl

or_false : (b : Bool) → b ≡ (b || false)
or_false true = refl
or_false false = refl

and_assoc : (a b c : Bool) → ((a && b) && c) ≡ (a && (b && c))
and_assoc true b c = refl
and_assoc false b c = refl

or_assoc : (a b c : Bool) → ((a || b) || c) ≡ (a || (b || c))
or_assoc true b c = refl
or_assoc false b c = refl

alls : (vs : List Value) (b : Bool) → fold (λ (s : Option Bool) v. Some (all_with s v)) (Some b) vs ≡ Some (b && list_all truth vs)
alls [] b = ap Some (and_true b)
alls (v ∷ vs) b = alls vs (b && truth v) ∙ ap Some (and_assoc b (truth v) (list_all truth vs))

anys : (vs : List Value) (b : Bool) → fold (λ (s : Option Bool) v. Some (any_with s v)) (Some b) vs ≡ Some (b || list_any truth vs)
anys [] b = ap Some (or_false b)
anys (v ∷ vs) b = anys vs (b || truth v) ∙ ap Some (or_assoc b (truth v) (list_any truth vs))

all_given : (vs : List Value) → (let a : Answer = Ok (truth_or_null (fold (λ (s : Option Bool) v. Some (all_with s v)) None vs)) in a) ≡ all_of vs
all_given [] = refl
all_given (v ∷ vs) = ap (λ (o : Option Bool). let a : Answer = Ok (truth_or_null o) in a) (alls vs (truth v))

any_given : (vs : List Value) → (let a : Answer = Ok (truth_or_null (fold (λ (s : Option Bool) v. Some (any_with s v)) None vs)) in a) ≡ any_of vs
any_given [] = refl
any_given (v ∷ vs) = ap (λ (o : Option Bool). let a : Answer = Ok (truth_or_null o) in a) (anys vs (truth v))

-- ---- texts

kept_longer : (k : ℕ) (made more : List ℕ) → take k made ++ take (k - length (take k made)) more ≡ take k (made ++ more)
kept_longer zero made more = refl
kept_longer (suc k) [] more = let e : suc k - 0 ≡ suc k = omega arith in ap (λ (n : ℕ). take n more) e
kept_longer (suc k) (b ∷ made) more =
    let e : suc k - suc (length (take k made)) ≡ k - length (take k made) = omega arith in
    ap (λ (n : ℕ). b ∷ (take k made ++ take n more)) e ∙ ap (λ (l : List ℕ). b ∷ l) (kept_longer k made more)

within_if : (made : List ℕ) (b : Bool) → nat_le (length made) text_limit ≡ b → text_within (take most made) ≡ text_within made
within_if made true is = ap text_within (take_all most made (let le : length made ≤ text_limit = leb-true (length made) text_limit is in omega (arith, le)))
within_if made false is =
    let long : text_limit < length made = leb-false (length made) text_limit is in
    let short : nat_le (length (take most made)) text_limit ≡ false = lt-leb (length (take most made)) text_limit (omega (arith, long, length-take most made)) in
    rw (short, is) refl

abbrev behind : Pair → List ℕ
behind q = text q.1 ++ text q.0

abbrev kept_of : List Pair → Option (List ℕ)
kept_of [] = None
kept_of (p ∷ pairs) = Some (take most (joined (p ∷ pairs)))

abbrev shown_pair : Pair → Bool
shown_pair p = is_given p.0

joined_more : (d : Pair) (done : List Pair) (v s : Value) → joined ((d ∷ done) ++ (v, s) ∷ []) ≡ (joined (d ∷ done) ++ text s) ++ text v
joined_more d done v s =
    ap (λ (l : List ℕ). text d.0 ++ l) (flat_map-append behind done ((v, s) ∷ []) ∙ ap (λ (l : List ℕ). flat_map behind done ++ l) (append-nil (text s ++ text v)))
    ∙ (sym (append_assoc (text d.0) (flat_map behind done) (text s ++ text v)) ∙ sym (append_assoc (joined (d ∷ done)) (text s) (text v)))

text_more : (done : List Pair) (v s : Value) → with_value (t.Texts (kept_of done)) v s ≡ t.Texts (kept_of (done ++ (v, s) ∷ []))
text_more [] v s = ap (λ (l : List ℕ). t.Texts (Some (take most l))) (sym (append-nil (text v)))
text_more (d ∷ done) v s =
    ap (λ (l : List ℕ). t.Texts (Some (longer l (text v)))) (kept_longer most (joined (d ∷ done)) (text s))
    ∙ (ap (λ (l : List ℕ). t.Texts (Some l)) (kept_longer most (joined (d ∷ done) ++ text s) (text v))
    ∙ ap (λ (l : List ℕ). t.Texts (Some (take most l))) (sym (joined_more d done v s)))

text_if : (done : List Pair) (p : Pair) (b : Bool) → is_null p.0 ≡ b → added (t.Texts (kept_of done)) p ≡ t.Texts (kept_of (done ++ cond (not b) (p ∷ []) []))
text_if done p true is = ap (λ (b : Bool). let made : Tally = if b then t.Texts (kept_of done) else with_value (t.Texts (kept_of done)) p.0 p.1 in made) is ∙ ap (λ (l : List Pair). t.Texts (kept_of l)) (sym (append-nil done))
text_if done p false is = ap (λ (b : Bool). let made : Tally = if b then t.Texts (kept_of done) else with_value (t.Texts (kept_of done)) p.0 p.1 in made) is ∙ text_more done p.0 p.1

kept : (p : Pair) (b : Bool) (l done : List Pair) → (done ++ cond b (p ∷ []) []) ++ l ≡ done ++ cond b (p ∷ l) l
kept p true l done = append_assoc done (p ∷ []) l
kept p false l done = ap (λ (k : List Pair). k ++ l) (append-nil done)

texts : (pairs done : List Pair) → fold added (t.Texts (kept_of done)) pairs ≡ t.Texts (kept_of (done ++ filter shown_pair pairs))
texts [] done = ap (λ (l : List Pair). t.Texts (kept_of l)) (sym (append-nil done))
texts (p ∷ pairs) done =
    ap (λ made. fold added made pairs) (text_if done p (is_null p.0) refl)
    ∙ (texts pairs (done ++ cond (is_given p.0) (p ∷ []) [])
    ∙ ap (λ (l : List Pair). t.Texts (kept_of l)) (kept p (is_given p.0) (filter shown_pair pairs) done))

text_is : (pairs : List Pair) → text_or_null (kept_of pairs) ≡ join pairs
text_is [] = refl
text_is (p ∷ pairs) = within_if (joined (p ∷ pairs)) (nat_le (length (joined (p ∷ pairs))) text_limit) refl

zipped : (pairs : List Pair) → zip (map first pairs) (map second pairs) ≡ pairs
zipped [] = refl
zipped (p ∷ pairs) = ap (λ (l : List Pair). p ∷ l) (zipped pairs)

-- ---- what an aggregate gives

pub finished_is : (kind : Aggregate) (pairs : List Pair) → finished (tally_of kind pairs) ≡ aggregated kind (map first pairs) (map second pairs)
finished_is CountRows pairs =
    let e : 0 + length pairs ≡ length (map first pairs) = omega (arith, length-map pairs first) in
    ap finished (rows pairs 0) ∙ ap (λ (n : ℕ). bigint (pos n)) e
finished_is Count pairs =
    let e : fold (λ (n : ℕ) (v : Value). n + 1) 0 (given (map first pairs)) ≡ length (given (map first pairs)) = omega (arith, counted (given (map first pairs)) 0) in
    ap finished (all t.Values (λ n v. n + 1) (λ s v o. refl) pairs 0) ∙ ap (λ (n : ℕ). bigint (pos n)) e
finished_is Sum pairs = ap finished (all t.Sum (λ s v. Some (sum_with s v)) (λ s v o. refl) pairs None) ∙ summed (given (map first pairs))
finished_is Min pairs = ap finished (all t.Least (λ s v. Some (best_with false s v)) (λ s v o. refl) pairs None) ∙ best_of false (given (map first pairs))
finished_is Max pairs = ap finished (all t.Greatest (λ s v. Some (best_with true s v)) (λ s v o. refl) pairs None) ∙ best_of true (given (map first pairs))
finished_is BoolAnd pairs = ap finished (all t.All (λ s v. Some (all_with s v)) (λ s v o. refl) pairs None) ∙ all_given (given (map first pairs))
finished_is BoolOr pairs = ap finished (all t.Any (λ s v. Some (any_with s v)) (λ s v o. refl) pairs None) ∙ any_given (given (map first pairs))
finished_is StringAgg pairs =
    ap finished (texts pairs []) ∙ (text_is (filter shown_pair pairs)
    ∙ ap (λ (l : List Pair). join (filter shown_pair l)) (sym (zipped pairs)))

-- ---- one thing more, at a place or behind the others

get_map : {X Y : Type 0} (f : X → Y) (xs : List X) (i : ℕ) (d : X) → get_or (map f xs) i (f d) ≡ f (get_or xs i d)
get_map f [] i d = refl
get_map f (x ∷ xs) zero d = refl
get_map f (x ∷ xs) (suc i) d = get_map f xs i d

pub at_map : {X Y : Type 0} (f : X → Y) (xs : List X) (i : ℕ) (d : X) → unwrap_or (slice_get (map f xs) i) (f d) ≡ f (get_or xs i d)
at_map f [] i d = refl
at_map f (x ∷ xs) zero d = refl
at_map f (x ∷ xs) (suc i) d = at_map f xs i d

pub map_push : {A B : Type 0} (f : A → B) (xs : List A) (y : A) → map f (xs ++ y ∷ []) ≡ map f xs ++ f y ∷ []
map_push f [] y = refl
map_push f (x ∷ xs) y = ap (λ l. f x ∷ l) (map_push f xs y)

module _ {X A B : Type 0} (f : List X → B) (add : B → A → B) (m : X) (x : A) (more : (ms : List X) → add (f ms) x ≡ f (ms ++ m ∷ [])) where
  put_if : (place : ℕ) (made : List (List X)) (b : Bool) → cond b (set (map f made) place (add (get_or (map f made) place (f [])) x)) (map f made ++ add (f []) x ∷ [])
      ≡ map f (cond b (set made place (get_or made place [] ++ m ∷ [])) (made ++ (m ∷ []) ∷ []))
  put_if place made true =
      ap (λ (y : B). set (map f made) place y) (ap (λ (y : B). add y x) (get_map f made place []) ∙ more (get_or made place []))
      ∙ sym (map-set f made place (get_or made place [] ++ m ∷ []))
  put_if place made false = ap (λ (y : B). map f made ++ y ∷ []) (more []) ∙ sym (map_push f made (m ∷ []))

  put_map : (place : ℕ) (made : List (List X)) → put add (f []) place x (map f made) ≡ map f (with_member place m made)
  put_map place made =
      ap (λ (n : ℕ). cond (nat_lt place n) (set (map f made) place (add (get_or (map f made) place (f [])) x)) (map f made ++ add (f []) x ∷ [])) (length-map made f)
      ∙ put_if place made (nat_lt place (length made))

fold_push : {X Y S : Type 0} (f : S → Y → S) (g : X → Y) (ms : List X) (m : X) (s : S) → f (fold f s (map g ms)) (g m) ≡ fold f s (map g (ms ++ m ∷ []))
fold_push f g [] m s = refl
fold_push f g (x ∷ ms) m s = fold_push f g ms m (f s (g x))

module _ {X : Type 0} (g : X → Pair) (kind : Aggregate) where
  pub column_more : (m : X) (place : ℕ) (made : List (List X)) → with_added place (g m) (column g kind made) ≡ column g kind (with_member place m made)
  column_more m place made =
      ap (λ (tallies : List Tally). (kind, tallies)) (put_map (λ ms. tally_of kind (map g ms)) added m (g m) (λ ms. fold_push added g ms m (start kind)) place made)

  maps : (h : Pair → Value) (ms : List X) → map h (map g ms) ≡ map (λ x. h (g x)) ms
  maps h [] = refl
  maps h (m ∷ ms) = ap (λ (l : List Value). h (g m) ∷ l) (maps h ms)

  pub answer_is : (place : ℕ) (made : List (List X)) → answer_at place (column g kind made)
      ≡ aggregated kind (map (λ x. (g x).0) (get_or made place [])) (map (λ x. (g x).1) (get_or made place []))
  answer_is place made =
      let ms : List X = get_or made place [] in
      ap finished (at_map (λ ms. tally_of kind (map g ms)) made place [])
      ∙ (finished_is kind (map g ms)
      ∙ (ap (λ (l : List Value). aggregated kind l (map second (map g ms))) (maps first ms)
      ∙ ap (λ (l : List Value). aggregated kind (map (λ x. (g x).0) ms) l) (maps second ms)))

-- ---- rows that are the same

either_false : (a b : Bool) → (a || b) ≡ false → (a ≡ false) × (b ≡ false)
either_false true b is = cc
either_false false b is = (refl, is)

neither : (b : Bool) → ((b && false) || false) ≡ false
neither true = refl
neither false = refl

not_both : (b : Bool) → (not b && b) ≡ false
not_both true = refl
not_both false = refl

abbrev Rows : Type 0
Rows = List (List Value)

-- the others than a row that is kept
abbrev others : List Value → List Value → Bool
others row x = not (same row x)

-- x where no row is the same
abbrev if_new : Bool → List Value → Rows
if_new found x = cond found [] (x ∷ [])

alike : (x y : List Value) → same x y ≡ true → (done : Rows) → list_any (same y) done ≡ list_any (same x) done
alike x y is [] = refl
alike x y is (d ∷ done) = let e : same x d ≡ same y d = rows_same.congr x y d is in rw (e, alike x y is done) refl

-- ---- what is kept of rows and one row more

one_if : (y x : List Value) (s b : Bool) → same x y ≡ s → filter (others y) (if_new b x) ≡ if_new (s || b) x
one_if y x true true is = refl
one_if y x false true is = refl
one_if y x true false is = let e : same y x ≡ true = rows_same.symm y x ∙ is in rw e refl
one_if y x false false is = let e : same y x ≡ false = rows_same.symm y x ∙ is in rw e refl

firsts_push : (xs : Rows) (x : List Value) → firsts (xs ++ x ∷ []) ≡ firsts xs ++ if_new (list_any (same x) xs) x
firsts_push [] x = refl
firsts_push (y ∷ xs) x =
    ap (λ (l : Rows). y ∷ filter (others y) l) (firsts_push xs x)
    ∙ (ap (λ (l : Rows). y ∷ l) (filter-append (others y) (firsts xs) (if_new (list_any (same x) xs) x))
    ∙ ap (λ (l : Rows). y ∷ (filter (others y) (firsts xs) ++ l)) (one_if y x (same x y) (list_any (same x) xs) refl))

-- ---- what is kept of rows: each once, and each row is the same as one of them

module _ {A : Type 0} (q : A → Bool) where
  any_cond : (b : Bool) (z : A) (l : List A) → list_any q (cond b (z ∷ l) l) ≡ ((b && q z) || list_any q l)
  any_cond true z l = refl
  any_cond false z l = refl

  any_less : (p : A → Bool) (l : List A) → list_any q l ≡ false → list_any q (filter p l) ≡ false
  any_less p [] is = refl
  any_less p (w ∷ l) is =
      let h = either_false (q w) (list_any q l) is in
      any_cond (p w) w (filter p l) ∙ rw (h.0, any_less p l h.1) (neither (p w))

masked_if : (x y z : List Value) (s t : Bool) → same x y ≡ false → same x z ≡ s → same y z ≡ t → (not t && s) ≡ s
masked_if x y z false true apart xz yz = refl
masked_if x y z false false apart xz yz = refl
masked_if x y z true false apart xz yz = refl
masked_if x y z true true apart xz yz = absurd (false≢true (sym apart ∙ (rows_same.congr x z y xz ∙ (rows_same.symm z y ∙ yz))))

any_others : (x y : List Value) → same x y ≡ false → (l : Rows) → list_any (same x) (filter (others y) l) ≡ list_any (same x) l
any_others x y apart [] = refl
any_others x y apart (z ∷ l) =
    any_cond (same x) (others y z) z (filter (others y) l)
    ∙ rw (masked_if x y z (same x z) (same y z) apart refl refl, any_others x y apart l) refl

covers_if : (x y : List Value) (xs : Rows) (s : Bool) → same x y ≡ s → list_any (same x) (firsts xs) ≡ list_any (same x) xs
    → (s || list_any (same x) (filter (others y) (firsts xs))) ≡ (s || list_any (same x) xs)
covers_if x y xs true is more = refl
covers_if x y xs false is more = any_others x y is (firsts xs) ∙ more

covers : (x : List Value) (xs : Rows) → list_any (same x) (firsts xs) ≡ list_any (same x) xs
covers x [] = refl
covers x (y ∷ xs) = covers_if x y xs (same x y) refl (covers x xs)

-- none of the rows is the same as one behind it
abbrev Apart : Rows → Type 0
Apart [] = Unit {0}
Apart (k ∷ ks) = (list_any (same k) ks ≡ false) × Apart ks

no_other : (y : List Value) (l : Rows) → list_any (same y) (filter (others y) l) ≡ false
no_other y [] = refl
no_other y (z ∷ l) = any_cond (same y) (others y z) z (filter (others y) l) ∙ rw (not_both (same y z), no_other y l) refl

apart_cond : (b : Bool) (z : List Value) (l : Rows) → list_any (same z) l ≡ false → Apart l → Apart (cond b (z ∷ l) l)
apart_cond true z l none apart = (none, apart)
apart_cond false z l none apart = apart

apart_filter : (p : List Value → Bool) (l : Rows) → Apart l → Apart (filter p l)
apart_filter p [] apart = tt
apart_filter p (z ∷ l) apart = apart_cond (p z) z (filter p l) (any_less (same z) p l apart.0) (apart_filter p l apart.1)

apart_firsts : (xs : Rows) → Apart (firsts xs)
apart_firsts [] = tt
apart_firsts (y ∷ xs) = (no_other y (firsts xs), apart_filter (others y) (firsts xs) (apart_firsts xs))

-- ---- groups and one thing more

module _ {A : Type 0} (x : List Value) (m : A) (members : List Value → List A) where
  abbrev with_one : List Value → List A
  with_one k = members k ++ cond (same k x) (m ∷ []) []

  none_added : (ks : Rows) → list_any (same x) ks ≡ false → map with_one ks ≡ map members ks
  none_added [] is = refl
  none_added (k ∷ ks) is =
      let h = either_false (same x k) (list_any (same x) ks) is in
      let e : same k x ≡ false = rows_same.symm k x ∙ h.0 in
      let here : with_one k ≡ members k = rw e (append-nil (members k)) in
      ap (λ (l : List A). l ∷ map with_one ks) here ∙ ap (λ (l : List (List A)). members k ∷ l) (none_added ks h.1)

  abbrev Put : Rows → ℕ → Type 0
  Put ks p = map with_one ks ≡ set (map members ks) p (get_or (map members ks) p [] ++ m ∷ [])

  one_put_if : (k : List Value) (ks : Rows) (p : ℕ) (b : Bool) (o : Option ℕ) → same x k ≡ b → list_any (same k) ks ≡ false
      → ((q : ℕ) → o ≡ Some q → Put ks q) → cond b (Some 0) (option_map suc o) ≡ Some p → Put (k ∷ ks) p
  one_put_if k ks p true o xk none more is =
      let z : 0 ≡ p = cc in
      let e : same k x ≡ true = rows_same.symm k x ∙ xk in
      let here : with_one k ≡ members k ++ m ∷ [] = rw e refl in
      let rest : map with_one ks ≡ map members ks = none_added ks (alike k x e ks ∙ none) in
      let whole : Put (k ∷ ks) 0 = ap (λ (l : List A). l ∷ map with_one ks) here ∙ ap (λ (l : List (List A)). (members k ++ m ∷ []) ∷ l) rest in
      subst (Put (k ∷ ks)) z whole
  one_put_if k ks p false None xk none more is = cc
  one_put_if k ks p false (Some q) xk none more is =
      let z : suc q ≡ p = cc in
      let e : same k x ≡ false = rows_same.symm k x ∙ xk in
      let here : with_one k ≡ members k = rw e (append-nil (members k)) in
      let whole : Put (k ∷ ks) (suc q) = ap (λ (l : List A). l ∷ map with_one ks) here ∙ ap (λ (l : List (List A)). members k ∷ l) (more q refl) in
      subst (Put (k ∷ ks)) z whole

  one_put : (ks : Rows) (p : ℕ) → Apart ks → place_of (same x) ks ≡ Some p → Put ks p
  one_put [] p apart is = cc
  one_put (k ∷ ks) p apart is = one_put_if k ks p (same x k) (place_of (same x) ks) refl apart.0 (λ q e. one_put ks q apart.1 e) is

-- a place is among so many
within_here : (k : List Value) (ks : Rows) (b : Bool) (o : Option ℕ) (p : ℕ) → ((q : ℕ) → o ≡ Some q → q < length ks) → cond b (Some 0) (option_map suc o) ≡ Some p → p < suc (length ks)
within_here k ks true o p below is = let h : 0 ≡ p = cc is in omega (arith, h)
within_here k ks false None p below is = cc
within_here k ks false (Some q) p below is = let h : suc q ≡ p = cc is in omega (arith, h, below q refl)

within : (test : List Value → Bool) (ks : Rows) (p : ℕ) → place_of test ks ≡ Some p → p < length ks
within test [] p is = cc
within test (k ∷ ks) p is = within_here k ks (test k) (place_of test ks) p (λ q e. within test ks q e) is

module _ {A : Type 0} (key : A → List Value) (xs : List A) (m : A) where
  abbrev known : Rows
  known = firsts (map key xs)

  abbrev of_key : List Value → List A
  of_key k = filter (λ x. same k (key x)) xs

  found : (b : Bool) → list_any (same (key m)) known ≡ b → list_any (same (key m)) (map key xs) ≡ b
  found b is = sym (covers (key m) (map key xs)) ∙ is

  known_if : (o : Option ℕ) → place_of (same (key m)) known ≡ o → known ++ if_new (list_any (same (key m)) (map key xs)) (key m) ≡ with_row o known (key m)
  known_if (Some p) is = let e : list_any (same (key m)) (map key xs) ≡ true = found true (present (same (key m)) known p is) in rw e (append-nil known)
  known_if None is = let e : list_any (same (key m)) (map key xs) ≡ false = found false (absent (same (key m)) known is) in rw e refl

  pub known_more : firsts (map key (xs ++ m ∷ [])) ≡ with_row (place_of (same (key m)) known) known (key m)
  known_more = ap firsts (map_push key xs m) ∙ (firsts_push (map key xs) (key m) ∙ known_if (place_of (same (key m)) known) refl)

  each : (k : List Value) → filter (λ x. same k (key x)) (xs ++ m ∷ []) ≡ with_one (key m) m of_key k
  each k = filter-append (λ x. same k (key x)) xs (m ∷ [])

  none_of_key : (ys : List A) → list_any (same (key m)) (map key ys) ≡ false → filter (λ x. same (key m) (key x)) ys ≡ []
  none_of_key [] is = refl
  none_of_key (y ∷ ys) is = let h = either_false (same (key m) (key y)) (list_any (same (key m)) (map key ys)) is in rw h.0 (none_of_key ys h.1)

  length_of : length (groups key xs) ≡ length known
  length_of = length-map known of_key

  made_if : (o : Option ℕ) → place_of (same (key m)) known ≡ o → map (with_one (key m) m of_key) (with_row o known (key m)) ≡ with_member (unwrap_or o (length known)) m (groups key xs)
  made_if (Some p) is =
      let below : nat_lt p (length (groups key xs)) ≡ true = lt-ltb p (length (groups key xs)) (omega (arith, within (same (key m)) known p is, length_of)) in
      one_put (key m) m of_key known p (apart_firsts (map key xs)) is
      ∙ sym (ap (λ (b : Bool). cond b (set (groups key xs) p (get_or (groups key xs) p [] ++ m ∷ [])) (groups key xs ++ (m ∷ []) ∷ [])) below)
  made_if None is =
      let none : list_any (same (key m)) known ≡ false = absent (same (key m)) known is in
      let own : with_one (key m) m of_key (key m) ≡ m ∷ [] = rw (none_of_key xs (found false none), (rows_same.refl (key m))) refl in
      let past : nat_lt (length known) (length (groups key xs)) ≡ false = le-ltb (length known) (length (groups key xs)) (omega (arith, length_of)) in
      map_push (with_one (key m) m of_key) known (key m)
      ∙ (ap (λ (l : List (List A)). l ++ with_one (key m) m of_key (key m) ∷ []) (none_added (key m) m of_key known none)
      ∙ (ap (λ (l : List A). groups key xs ++ l ∷ []) own
      ∙ sym (ap (λ (b : Bool). cond b (set (groups key xs) (length known) (get_or (groups key xs) (length known) [] ++ m ∷ [])) (groups key xs ++ (m ∷ []) ∷ [])) past)))

  pub groups_more : groups key (xs ++ m ∷ []) ≡ with_member (place_in known (key m)) m (groups key xs)
  groups_more =
      (λ i. map (λ k. each k i) (firsts (map key (xs ++ m ∷ []))))
      ∙ (ap (map (with_one (key m) m of_key)) known_more
      ∙ made_if (place_of (same (key m)) known) refl)
