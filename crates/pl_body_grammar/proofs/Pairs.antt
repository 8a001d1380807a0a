-- Tests of two tokens, and rules that spell at least two.
use Rattle.std.proofs.Common.{◌≡◌, Bool, true, false, not, ◌&&◌, ◌||◌, if◌then◌else◌, List, [], ◌∷◌, ◌++◌, refl, sym, ap, ◌∙◌, subst}
use Rattle.pl_lex.specs.declared.token.TokenKind.{TokenKind}
use Rattle.pl_grammar.specs.Marks.{Tokens, Mark, among, marked, sees_two}
use Rattle.pl_grammar.specs.Parser.{Parser}
use Rattle.pl_grammar.specs.Relations.{Rel, both, behind_mark, before_mark, made, checked, with_mark, without, first, second, preferred, otherwise}
use Rattle.pl_grammar.specs.Rule.{Rule, part, inside, given, one, nothing, maybe, ◌before◌, ◌until◌, ◌then◌, make, check, fork, ◌or◌, ahead, prefer, links, link, many, Spelled, FirstFollow, nullable, starts}
use Rattle.pl_grammar.specs.Fit.{Begun, Ends, Told, included}
use Rattle.pl_grammar.proofs.Begins.{begun}
use Rattle.pl_grammar.proofs.Sets.{included_among}
use Rattle.pl_grammar.proofs.Plain.{split}
use Rattle.pl_body_grammar.specs.Ahead.{sees_pair, sees_with, sees_any}

-- ---- at least two tokens

abbrev pub Two : Tokens → Type 0
Two [] = ⊥
Two (t ∷ []) = ⊥
Two (t ∷ u ∷ ts) = Unit {0}

two_cons : (ms : List Mark) (t : TokenKind) (xs : Tokens) → Begun ms false xs → Two (t ∷ xs)
two_cons ms t [] h = absurd (cc)
two_cons ms t (u ∷ xs) h = tt

two_snoc : (ms : List Mark) (xs : Tokens) (t : TokenKind) → Begun ms false xs → Two (xs ++ t ∷ [])
two_snoc ms [] t h = absurd (cc)
two_snoc ms (u ∷ []) t h = tt
two_snoc ms (u ∷ v ∷ xs) t h = tt

two_both : (ms ns : List Mark) (xs ys : Tokens) → Begun ms false xs → Begun ns false ys → Two (xs ++ ys)
two_both ms ns [] ys h k = absurd (cc)
two_both ms ns (t ∷ []) [] h k = absurd (cc)
two_both ms ns (t ∷ []) (u ∷ ys) h k = tt
two_both ms ns (t ∷ u ∷ xs) ys h k = tt

two_left : (xs ys : Tokens) → Two xs → Two (xs ++ ys)
two_left [] ys h = absurd h
two_left (t ∷ []) ys h = absurd h
two_left (t ∷ u ∷ xs) ys h = tt

two_more : (t : TokenKind) (xs : Tokens) → Two xs → Two (t ∷ xs)
two_more t [] h = absurd h
two_more t (u ∷ xs) h = tt

two_right : (xs ys : Tokens) → Two ys → Two (xs ++ ys)
two_right [] ys h = h
two_right (t ∷ xs) ys h = two_more t (xs ++ ys) (two_right xs ys h)

not_true : (a : Bool) → not a ≡ true → a ≡ false
not_true false h = refl
not_true true h = absurd (cc)

or_case : {P : Type 0} (a b : Bool) → (a || b) ≡ true → (a ≡ true → P) → (b ≡ true → P) → P
or_case true b h f g = f refl
or_case false b h f g = g h

module _ {Part : Type 0} {Tree : Part → Type 0} (e : FirstFollow Part) (longs : Part → Bool) where
  -- at least two tokens spell it
  abbrev pub long : {A : Type 0} → Rule Tree A → Bool
  long (part p) = longs p
  long (inside p) = false
  long (given g) = false
  long (one s) = false
  long (nothing a) = false
  long (maybe m) = false
  long (◌before◌ m r) = not (nullable e r) || long r
  long (◌until◌ r m) = not (nullable e r) || long r
  long (◌then◌ r s) = (not (nullable e r) && not (nullable e s)) || (long r || long s)
  long (make f r) = long r
  long (check f r) = long r
  long (fork m r s) = not (nullable e r) && long s
  long (◌or◌ r s) = long r && long s
  long (ahead test marks r s) = long r && long s
  long (prefer test marks r s) = long r && long s
  long (links table r f) = false
  long (link table r f) = false
  long (many r) = false

  module _ (R : (p : Part) → Rel (Tree p)) (inner here : (p : Part) → Parser (Tree p))
      (begin : (p : Part) (a : Tree p) (xs : Tokens) → R p a xs → Begun (e.firsts p) (e.empty p) xs)
      (two_part : (p : Part) → longs p ≡ true → (a : Tree p) (xs : Tokens) → R p a xs → Two xs) where
    full : {A : Type 0} (r : Rule Tree A) → Told e R inner here r → nullable e r ≡ false → (a : A) (xs : Tokens) → Spelled R r a xs → Begun (starts e r) false xs
    full r l n a xs h = subst (λ (b : Bool). Begun (starts e r) b xs) n (begun e R inner here begin r l a xs h)

    pub two : {A : Type 0} (r : Rule Tree A) → Told e R inner here r → long r ≡ true → (a : A) (xs : Tokens) → Spelled R r a xs → Two xs
    two (part p) l h a xs k = two_part p h a xs k
    two (inside p) l h a xs k = absurd (cc)
    two (given g) l h a xs k = absurd (cc)
    two (one s) l h a xs k = absurd (cc)
    two (nothing x) l h a xs k = absurd (cc)
    two (maybe m) l h a xs k = absurd (cc)
    two (◌before◌ m r) l h a xs (behind_mark {t = t} {xs = ys} j k) =
        or_case (not (nullable e r)) (long r) h
        (λ n. two_cons (starts e r) t ys (full r l (not_true (nullable e r) n) a ys k))
        (λ n. two_more t ys (two r l n a ys k))
    two (◌until◌ r m) l h a xs (before_mark t {xs = ys} k j) =
        or_case (not (nullable e r)) (long r) h
        (λ n. two_snoc (starts e r) ys t (full r l (not_true (nullable e r) n) a ys k))
        (λ n. two_left ys (t ∷ []) (two r l n a ys k))
    two (◌then◌ r s) l h c xs (both {a = a} {b = b} {xs = ys} {ys = zs} j k) =
        or_case (not (nullable e r) && not (nullable e s)) (long r || long s) h
        (λ n. let p = split (not (nullable e r)) (not (nullable e s)) n in
        two_both (starts e r) (starts e s) ys zs (full r l.0 (not_true (nullable e r) p.0) a ys j) (full s l.1 (not_true (nullable e s) p.1) b zs k))
        (λ n. or_case (long r) (long s) n (λ n. two_left ys zs (two r l.0 n a ys j)) (λ n. two_right ys zs (two s l.1 n b zs k)))
    two (make f r) l h b xs (made {a = a} k) = two r l h a xs k
    two (check f r) l h b xs (checked {a = a} k j) = two r l h a xs k
    two (fork m r s) l h a xs (with_mark {t = t} {xs = ys} j k) =
        let p = split (not (nullable e r)) (long s) h in two_cons (starts e r) t ys (full r l.0 (not_true (nullable e r) p.0) a ys k)
    two (fork m r s) l h a xs (without k) = let p = split (not (nullable e r)) (long s) h in two s l.1 p.1 a xs k
    two (◌or◌ r s) l h a xs (first k) = let p = split (long r) (long s) h in two r l.0 p.0 a xs k
    two (◌or◌ r s) l h a xs (second k) = let p = split (long r) (long s) h in two s l.1 p.1 a xs k
    two (ahead test marks r s) l h a xs (first k) = let p = split (long r) (long s) h in two r l.0 p.0 a xs k
    two (ahead test marks r s) l h a xs (second k) = let p = split (long r) (long s) h in two s l.1 p.1 a xs k
    two (prefer test marks r s) l h a xs (preferred k) = let p = split (long r) (long s) h in two r l.0 p.0 a xs k
    two (prefer test marks r s) l h a xs (otherwise fails k) = let p = split (long r) (long s) h in two s l.1 p.1 a xs k
    two (links table r f) l h a xs k = absurd (cc)
    two (link table r f) l h a xs k = absurd (cc)
    two (many r) l h a xs k = absurd (cc)

-- ---- tests of two tokens

both_hold : {a b : Bool} → a ≡ true → b ≡ true → (a && b) ≡ true
both_hold {a} {b} h k = ap (λ (x : Bool). x && b) h ∙ k

pub pair_steady : (ms ns : List Mark) (front rest : Tokens) → sees_pair ms ns front ≡ true → sees_pair ms ns (front ++ rest) ≡ true
unfolding sees_pair
pair_steady ms ns [] rest h = absurd (cc)
pair_steady ms ns (t ∷ []) rest h = absurd (cc)
pair_steady ms ns (t ∷ u ∷ ts) rest h = h

pub pair_excluded : (ms ns : List Mark) (front rest : Tokens) → Two front → sees_pair ms ns front ≡ false → sees_pair ms ns (front ++ rest) ≡ true → ⊥
unfolding sees_pair
pair_excluded ms ns [] rest two h k = absurd two
pair_excluded ms ns (t ∷ []) rest two h k = absurd two
pair_excluded ms ns (t ∷ u ∷ ts) rest two h k = absurd (cc)

pub pair_at : (ms ns : List Mark) (t : TokenKind) (us rest : Tokens) → among ms t ≡ true → Begun ns false us → sees_pair ms ns (t ∷ (us ++ rest)) ≡ true
unfolding sees_pair
pair_at ms ns t [] rest h k = absurd (cc)
pair_at ms ns t (u ∷ us) rest h k = both_hold h k

-- one token is not two, whatever mark stands behind it
pub pair_alone : (ms ns : List Mark) (t : TokenKind) (rest : Tokens) → sees_pair ms ns (t ∷ rest) ≡ true → Ends ns rest → ⊥
unfolding sees_pair
pair_alone ms ns t [] h end = absurd (cc)
pair_alone ms ns t (u ∷ rest) h end =
    let p = split (among ms t) (among ns u) h in
    let e : true ≡ false = sym p.1 ∙ end in
    absurd (cc)

so_included : (ss us : List Mark) (xs : Tokens) → included ss us ≡ true → Begun ss false xs → Begun us false xs
so_included ss us [] i h = h
so_included ss us (t ∷ xs) i h = included_among ss us t i h

-- a mark, and a rule whose marks are those of the test
module _ {Part : Type 0} {Tree : Part → Type 0} (e : FirstFollow Part) (R : (p : Part) → Rel (Tree p)) (inner here : (p : Part) → Parser (Tree p))
    (begin : (p : Part) (a : Tree p) (xs : Tokens) → R p a xs → Begun (e.firsts p) (e.empty p) xs) where
  pub begun_so : {A : Type 0} (r : Rule Tree A) → Told e R inner here r → (ns : List Mark) → included (starts e r) ns ≡ true → nullable e r ≡ false → (a : A) (xs : Tokens) → Spelled R r a xs → Begun ns false xs
  begun_so r l ns i n a xs h = so_included (starts e r) ns xs i (subst (λ (b : Bool). Begun (starts e r) b xs) n (begun e R inner here begin r l a xs h))

  pub mark_passes : {A : Type 0} (m : Mark) (r : Rule Tree A) → Told e R inner here r → (ns : List Mark) → included (starts e r) ns ≡ true → nullable e r ≡ false
      → (a : A) (front rest : Tokens) → Spelled R (m before r) a front → sees_pair (m ∷ []) ns (front ++ rest) ≡ true
  mark_passes m r l ns i n a front rest (behind_mark {t = t} {xs = us} h k) =
      pair_at (m ∷ []) ns t us rest (ap (λ (b : Bool). if b then true else false) h) (begun_so r l ns i n a us k)

-- ---- one mark after the other

and_false : (a : Bool) → (a && false) ≡ false
and_false true = refl
and_false false = refl

here_bool : (a b c : Bool) → (a && b) ≡ true → ((if a then true else false) && (if b then true else c)) ≡ true
here_bool true true c h = refl
here_bool true false c h = absurd (cc)
here_bool false b c h = absurd (cc)

later_bool : (a b c : Bool) → (a && b) ≡ false → ((if a then true else false) && (if b then true else c)) ≡ ((if a then true else false) && c)
later_bool true true c h = absurd (cc)
later_bool true false c h = refl
later_bool false b c h = refl

with_none : (m : Mark) (ts : Tokens) → sees_pair (m ∷ []) [] ts ≡ false
unfolding sees_pair
with_none m [] = refl
with_none m (t ∷ []) = refl
with_none m (t ∷ u ∷ ts) = and_false (among (m ∷ []) t)

with_here : (m n : Mark) (ns : List Mark) (ts : Tokens) → sees_two m n ts ≡ true → sees_pair (m ∷ []) (n ∷ ns) ts ≡ true
unfolding sees_pair sees_two
with_here m n ns [] h = absurd (cc)
with_here m n ns (t ∷ []) h = absurd (cc)
with_here m n ns (t ∷ u ∷ ts) h = here_bool (marked m t) (marked n u) (among ns u) h

with_later : (m n : Mark) (ns : List Mark) (ts : Tokens) → sees_two m n ts ≡ false → sees_pair (m ∷ []) (n ∷ ns) ts ≡ sees_pair (m ∷ []) ns ts
unfolding sees_pair sees_two
with_later m n ns [] h = refl
with_later m n ns (t ∷ []) h = refl
with_later m n ns (t ∷ u ∷ ts) h = later_bool (marked m t) (marked n u) (among ns u) h

any_bool : (a b c : Bool) → ((if a then true else false) && b) ≡ true → ((if a then true else c) && b) ≡ true
any_bool true b c h = h
any_bool false b c h = absurd (cc)

none_bool : (a b c : Bool) → ((if a then true else false) && b) ≡ false → ((if a then true else c) && b) ≡ (c && b)
none_bool true b true h = refl
none_bool true b false h = h
none_bool false b c h = refl

any_none : (ns : List Mark) (ts : Tokens) → sees_pair [] ns ts ≡ false
unfolding sees_pair
any_none ns [] = refl
any_none ns (t ∷ []) = refl
any_none ns (t ∷ u ∷ ts) = refl

any_here : (m : Mark) (ms ns : List Mark) (ts : Tokens) → sees_pair (m ∷ []) ns ts ≡ true → sees_pair (m ∷ ms) ns ts ≡ true
unfolding sees_pair
any_here m ms ns [] h = absurd (cc)
any_here m ms ns (t ∷ []) h = absurd (cc)
any_here m ms ns (t ∷ u ∷ ts) h = any_bool (marked m t) (among ns u) (among ms t) h

any_later : (m : Mark) (ms ns : List Mark) (ts : Tokens) → sees_pair (m ∷ []) ns ts ≡ false → sees_pair (m ∷ ms) ns ts ≡ sees_pair ms ns ts
unfolding sees_pair
any_later m ms ns [] h = refl
any_later m ms ns (t ∷ []) h = refl
any_later m ms ns (t ∷ u ∷ ts) h = none_bool (marked m t) (among ns u) (among ms t) h

-- ---- pair by pair

with_by : (m n : Mark) (ns : List Mark) (ts : Tokens) (b : Bool) → sees_with m ns ts ≡ sees_pair (m ∷ []) ns ts → sees_two m n ts ≡ b → (if b then true else sees_with m ns ts) ≡ sees_pair (m ∷ []) (n ∷ ns) ts
with_by m n ns ts true more h = sym (with_here m n ns ts h)
with_by m n ns ts false more h = more ∙ sym (with_later m n ns ts h)

with_pair : (m : Mark) (ns : List Mark) (ts : Tokens) → sees_with m ns ts ≡ sees_pair (m ∷ []) ns ts
with_pair m [] ts = sym (with_none m ts)
with_pair m (n ∷ ns) ts = with_by m n ns ts (sees_two m n ts) (with_pair m ns ts) refl

any_by : (m : Mark) (ms ns : List Mark) (ts : Tokens) (b : Bool) → sees_any ms ns ts ≡ sees_pair ms ns ts → sees_with m ns ts ≡ b → (if b then true else sees_any ms ns ts) ≡ sees_pair (m ∷ ms) ns ts
any_by m ms ns ts true more h = sym (any_here m ms ns ts (sym (with_pair m ns ts) ∙ h))
any_by m ms ns ts false more h = more ∙ sym (any_later m ms ns ts (sym (with_pair m ns ts) ∙ h))

pub any_pair : (ms ns : List Mark) (ts : Tokens) → sees_any ms ns ts ≡ sees_pair ms ns ts
any_pair [] ns ts = sym (any_none ns ts)
any_pair (m ∷ ms) ns ts = any_by m ms ns ts (sees_with m ns ts) (any_pair ms ns ts) refl
