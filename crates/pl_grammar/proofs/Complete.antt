-- What a rule spells is read, and as that tree.
use Rattle.std.proofs.Common.{◌≡◌, ℕ, zero, suc, ◌<◌, ◌≤◌, Bool, true, false, not, ◌&&◌, ◌||◌, if◌then◌else◌, List, [], ◌∷◌, ◌++◌, length, Option, Some, None, refl, sym, ap, ◌∙◌, subst, append_assoc, append-nil, length-append, arith}
use Rattle.pl_lex.specs.declared.token.TokenKind.{TokenKind}
use Rattle.pl_grammar.specs.Marks.{Tokens, Mark, marked, Sort, Carried, sees, after, begins, among}
use Rattle.pl_grammar.specs.Parser.{Parser, and_then, pure, with_rest, eat, expect, take, joins, links_turn, links_from, link_at, many_turn, many_from}
use Rattle.pl_grammar.specs.Relations.{Rel, One, carries, Then, both, Before, behind_mark, Until, before_mark, Made, made, Checked, checked, Empty, empty, Maybe, there, absent, Fork, with_mark, without, Either, first as by_first, second as by_second, Prefer, preferred, otherwise, Links, no_link, joined, Link, unlinked, linked, Many, no_more, one_more}
use Rattle.pl_grammar.specs.Rule.{Rule, part, inside, given, one, nothing, maybe, ◌before◌, ◌until◌, ◌then◌, make, check, fork, ◌or◌, ahead, prefer, links, link, many, Spelled, FirstFollow, words, nullable, starts, read}
use Rattle.pl_grammar.specs.Fit.{apart_all, clear, stops, fits, guarded, Ends, Begun, Told}
use Rattle.pl_grammar.proofs.Tools.{Gives, bind_gives, expect_gives, after_mark, after_false}
use Rattle.pl_grammar.proofs.Sets.{and_true, not_true, either_false, false_unless, apart_all_off, unmarked, clear_off, clear_off_left, ends_both, table_among, table_none}
use Rattle.pl_grammar.proofs.Begins.{begun, many_begun}

-- what is spelled with fewer than n tokens is read, where it ends
abbrev pub Complete : {A : Type 0} → ℕ → Parser A → Rel A → List Mark → Type 0
Complete {A} n p R ms = (a : A) (front rest : Tokens) → R a front → length front < n → Ends ms rest → Gives (p (front ++ rest)) a rest

-- ---- what follows

ends_sees : (m : Mark) (ts : Tokens) → Ends (m ∷ []) ts → sees m ts ≡ false
unfolding sees
ends_sees m [] h = refl
ends_sees m (t ∷ ts) h = (either_false (marked m t) false h).0

ends_begins : (ms : List Mark) (ts : Tokens) → Ends ms ts → begins ms ts ≡ false
unfolding begins
ends_begins ms [] h = refl
ends_begins ms (t ∷ ts) h = h

ends_joins : {O : Type 0} (table : List (Mark × O)) (ts : Tokens) → Ends (words table) ts → joins table ts ≡ None
unfolding joins
ends_joins table [] h = refl
ends_joins table (t ∷ ts) h = table_none table t h

any_ends : (ts : Tokens) → Ends [] ts
any_ends [] = tt
any_ends (t ∷ ts) = refl

ends_behind : (ss vs : List Mark) (a : Bool) (ys rest : Tokens) → ((t : TokenKind) → among ss t ≡ true → among vs t ≡ false) → Begun ss a ys → Ends (if a then vs else []) rest → Ends vs (ys ++ rest)
ends_behind ss vs a [] rest off k end = subst (λ a. Ends (if a then vs else []) rest) k end
ends_behind ss vs a (t ∷ ys) rest off k end = off t k

begun_begins : (ss : List Mark) (a : Bool) (xs rest : Tokens) → a ≡ false → Begun ss a xs → begins ss (xs ++ rest) ≡ true
unfolding begins
begun_begins ss a [] rest e h = absurd (cc)
begun_begins ss a (t ∷ xs) rest e h = h

begun_length : (ss : List Mark) (a : Bool) (xs : Tokens) → a ≡ false → Begun ss a xs → 0 < length xs
begun_length ss a [] e h = absurd (cc)
begun_length ss a (t ∷ xs) e h = omega arith

-- ---- tokens

take_complete : (s : Sort) (a : Carried s) (front rest : Tokens) → One s a front → Gives (take s (front ++ rest)) a rest
unfolding take
take_complete s a front rest (carries h) = ap (λ (o : Option (Carried s)). with_rest o rest) h

eat_complete : (m : Mark) (b : Bool) (front rest : Tokens) → Maybe m b front → Ends (m ∷ []) rest → Gives (eat m (front ++ rest)) b rest
eat_complete m b front rest (there {t = t} h) end = let two = after_mark m t rest h in cc (two.0, two.1)
eat_complete m b front rest absent end = let no = ends_sees m rest end in cc (no, after_false m rest no)

nothing_complete : {A : Type 0} (x a : A) (front rest : Tokens) → Empty x a front → Gives (pure x (front ++ rest)) a rest
nothing_complete x a front rest empty = refl

-- ---- one of two

take_first : {A : Type 0} (b : Bool) (p q : Parser A) (ts : Tokens) (a : A) (rest : Tokens) → b ≡ true → Gives (p ts) a rest → Gives ((if b then p else q) ts) a rest
take_first b p q ts a rest e h = ap (λ (b : Bool). (if b then p else q) ts) e ∙ h

take_second : {A : Type 0} (b : Bool) (p q : Parser A) (ts : Tokens) (a : A) (rest : Tokens) → b ≡ false → Gives (q ts) a rest → Gives ((if b then p else q) ts) a rest
take_second b p q ts a rest e h = ap (λ (b : Bool). (if b then p else q) ts) e ∙ h

module _ {A : Type 0} (p q : Parser A) (R S : Rel A) (m : ℕ) (ss us : List Mark) (d : Complete m q S us) where
  fork_complete : (n : ℕ) → m ≤ suc n → Complete n p R ss → (k : Mark) (fs : List Mark) (b : Bool) → ((a : A) (xs : Tokens) → S a xs → Begun fs b xs) → apart_all k fs ≡ true
      → Complete m (λ ts. (if sees k ts then p else q) (after k ts)) (Fork k R S) (ss ++ (us ++ (if b then k ∷ [] else [])))
  fork_complete n hi c k fs b begin off a front rest (with_mark {t = t} {xs = xs} h x) low end =
      let two = after_mark k t (xs ++ rest) h in
      ap (λ (ts : Tokens). (if sees k (t ∷ (xs ++ rest)) then p else q) ts) two.1
      ∙ take_first (sees k (t ∷ (xs ++ rest))) p q (xs ++ rest) a rest two.0 (c a xs rest x (omega arith) (ends_both ss (us ++ (if b then k ∷ [] else [])) rest end).0)
  fork_complete n hi c k fs b begin off a front rest (without h) low end =
      let last : List Mark = if b then k ∷ [] else [] in
      let parts = ends_both us last rest (ends_both ss (us ++ last) rest end).1 in
      let no = ends_sees k (front ++ rest) (ends_behind fs (k ∷ []) b front rest (λ t h. ap (λ b. if b then true else false) (unmarked k fs t off h)) (begin a front h) parts.1) in
      ap (λ (ts : Tokens). (if sees k (front ++ rest) then p else q) ts) (after_false k (front ++ rest) no)
      ∙ take_second (sees k (front ++ rest)) p q (front ++ rest) a rest no (d a front rest h low parts.0)

  module _ (c : Complete m p R ss) where
    or_complete : (fs gs : List Mark) (i j : Bool) → ((a : A) (xs : Tokens) → R a xs → Begun fs i xs) → ((a : A) (xs : Tokens) → S a xs → Begun gs j xs) → i ≡ false → clear fs gs ≡ true
        → Complete m (λ ts. (if begins fs ts then p else q) ts) (Either R S) (ss ++ (us ++ (if j then fs else [])))
    or_complete fs gs i j begin_p begin_q some off a front rest (by_first h) low end =
        take_first (begins fs (front ++ rest)) p q (front ++ rest) a rest (begun_begins fs i front rest some (begin_p a front h)) (c a front rest h low (ends_both ss (us ++ (if j then fs else [])) rest end).0)
    or_complete fs gs i j begin_p begin_q some off a front rest (by_second h) low end =
        let last : List Mark = if j then fs else [] in
        let parts = ends_both us last rest (ends_both ss (us ++ last) rest end).1 in
        let no = ends_begins fs (front ++ rest) (ends_behind gs fs j front rest (λ t k. clear_off_left fs gs t off k) (begin_q a front h) parts.1) in
        take_second (begins fs (front ++ rest)) p q (front ++ rest) a rest no (d a front rest h low parts.0)

    ahead_complete : (test : Tokens → Bool) (marks : List Mark) → ((a : A) (front rest : Tokens) → R a front → test (front ++ rest) ≡ true)
        → ((ts rest : Tokens) (a : A) → test ts ≡ true → q ts ≡ Some (a, rest) → Ends marks rest → ⊥) → Complete m (λ ts. (if test ts then p else q) ts) (Either R S) (ss ++ (us ++ marks))
    ahead_complete test marks passes excluded a front rest (by_first h) low end = take_first (test (front ++ rest)) p q (front ++ rest) a rest (passes a front rest h) (c a front rest h low (ends_both ss (us ++ marks) rest end).0)
    ahead_complete test marks passes excluded a front rest (by_second h) low end =
        let parts = ends_both us marks rest (ends_both ss (us ++ marks) rest end).1 in
        let this = d a front rest h low parts.0 in
        take_second (test (front ++ rest)) p q (front ++ rest) a rest (false_unless (test (front ++ rest)) (λ k. excluded (front ++ rest) rest a k this parts.1)) this

    prefer_complete : (test : Tokens → Bool) (marks : List Mark) → ((a : A) (front rest : Tokens) → R a front → test (front ++ rest) ≡ true)
        → ((a : A) (front rest : Tokens) → S a front → test front ≡ false → test (front ++ rest) ≡ true → Ends marks rest → ⊥) → Complete m (λ ts. (if test ts then p else q) ts) (Prefer test R S) (ss ++ (us ++ marks))
    prefer_complete test marks passes excluded a front rest (preferred h) low end = take_first (test (front ++ rest)) p q (front ++ rest) a rest (passes a front rest h) (c a front rest h low (ends_both ss (us ++ marks) rest end).0)
    prefer_complete test marks passes excluded a front rest (otherwise fails h) low end =
        let parts = ends_both us marks rest (ends_both ss (us ++ marks) rest end).1 in
        take_second (test (front ++ rest)) p q (front ++ rest) a rest (false_unless (test (front ++ rest)) (λ k. excluded a front rest h fails k parts.1)) (d a front rest h low parts.0)

-- ---- one and then the other

module _ {A B : Type 0} (p : Parser A) (q : Parser B) (R : Rel A) (S : Rel B) where
  abbrev Pair : Parser (A × B)
  Pair = λ ts. and_then (p ts) (λ a ts. and_then (q ts) (λ b ts. Some ((a, b), ts)))

  then_complete : (m : ℕ) (ss us : List Mark) → Complete m p R ss → ((a : A) (xs : Tokens) → R a xs → (b : B) (ys rest : Tokens) → S b ys → length (xs ++ ys) < m → Ends us rest → Gives (q (ys ++ rest)) b rest)
      → ((b : B) (ys rest : Tokens) → S b ys → Ends us rest → Ends ss (ys ++ rest)) → Complete m Pair (Then R S) us
  then_complete m ss us c d lead ab front rest (both {a = a} {b = b} {xs = xs} {ys = ys} hx hy) low end =
      let sizes = length-append xs ys in
      ap Pair (append_assoc xs ys rest)
      ∙ bind_gives (p (xs ++ (ys ++ rest))) _ a (ys ++ rest) (a, b) rest (c a xs (ys ++ rest) hx (omega arith) (lead b ys rest hy end))
      (bind_gives (q (ys ++ rest)) _ b rest (a, b) rest (d a xs hx b ys rest hy low end) refl)

-- behind what isn't empty fewer tokens are left
behind_complete : {B : Type 0} (q : Parser B) (S : Rel B) (us : List Mark) (n m : ℕ) → m ≤ suc n → Complete n q S us → (a : Bool) → (a ≡ true → Complete m q S us) → (ss : List Mark) (xs : Tokens) → Begun ss a xs
    → (b : B) (ys rest : Tokens) → S b ys → length (xs ++ ys) < m → Ends us rest → Gives (q (ys ++ rest)) b rest
behind_complete q S us n m hi c a d ss [] k b ys rest h low end = d k b ys rest h low end
behind_complete q S us n m hi c a d ss (t ∷ xs) k b ys rest h low end = let sizes = length-append xs ys in c b ys rest h (omega arith) end

module _ {A : Type 0} (p : Parser A) (R : Rel A) (n : ℕ) (ms : List Mark) (c : Complete n p R ms) where
  before_complete : (m : Mark) → Complete (suc n) (λ ts. and_then (expect m ts) (λ _ ts. p ts)) (Before m R) ms
  before_complete m a front rest (behind_mark {t = t} {xs = xs} h k) low end =
      bind_gives (expect m (t ∷ (xs ++ rest))) _ tt (xs ++ rest) a rest (expect_gives m t (xs ++ rest) h) (c a xs rest k (omega arith) end)

  until_complete : (m : Mark) → apart_all m ms ≡ true → Complete (suc n) (λ ts. and_then (p ts) (λ a ts. and_then (expect m ts) (λ _ ts. Some (a, ts)))) (Until R m) []
  until_complete m off a front rest (before_mark t {xs = xs} h k) low end =
      let sizes = length-append xs (t ∷ []) in
      ap (λ (ts : Tokens). and_then (p ts) (λ a ts. and_then (expect m ts) (λ _ ts. Some (a, ts)))) (append_assoc xs (t ∷ []) rest)
      ∙ bind_gives (p (xs ++ t ∷ rest)) _ a (t ∷ rest) a rest (c a xs (t ∷ rest) h (omega arith) (apart_all_off m ms t off k))
      (bind_gives (expect m (t ∷ rest)) _ tt rest a rest (expect_gives m t rest k) refl)

  make_complete : {B : Type 0} (f : A → B) → Complete n (λ ts. and_then (p ts) (λ a ts. Some (f a, ts))) (Made f R) ms
  make_complete f b front rest (made {a = a} h) low end = bind_gives (p (front ++ rest)) _ a rest b rest (c a front rest h low end) refl

  check_complete : {B : Type 0} (f : A → Option B) → Complete n (λ ts. and_then (p ts) (λ a ts. with_rest (f a) ts)) (Checked f R) ms
  check_complete f b front rest (checked {a = a} h k) low end =
      bind_gives (p (front ++ rest)) _ a rest b rest (c a front rest h low end) (ap (λ (o : Option _). with_rest o rest) k)

-- ---- chains

module _ {O A B : Type 0} (table : List (Mark × O)) (item : Parser A) (Item : Rel A) (make : O → A → B) (n : ℕ) (vs : List Mark) (c : Complete n item Item vs) where
  links_begun : (bs : List B) (ys : Tokens) → Links table Item make bs ys → Begun (words table) true ys
  links_begun bs ys no_link = refl
  links_begun bs ys (joined {o = o} {t = t} h k more) = table_among table t o h

  links_end : (k : ℕ) (found : List B) (rest : Tokens) → Ends (words table) rest → Gives (links_from table item make k found rest) found rest
  links_end zero found rest end = refl
  links_end (suc k) found rest end = ap (λ o. links_turn table item make (links_from table item make k) found rest o) (ends_joins table rest end)

  links_complete : clear (words table) vs ≡ true → (k : ℕ) (found bs : List B) (front rest : Tokens) → Links table Item make bs front → length front ≤ n → length front ≤ k → Ends (words table) rest → Ends vs rest
      → Gives (links_from table item make k found (front ++ rest)) (found ++ bs) rest
  unfolding joins
  links_complete off k found bs front rest no_link low few end next = links_end k found rest end ∙ ap (λ (all : List B). Some (all, rest)) (sym (append-nil found))
  links_complete off zero found bs front rest (joined h x more) low few end next = absurd (omega arith)
  links_complete off (suc k) found bs front rest (joined {o = o} {t = t} {a = a} {xs = xs} {bs = cs} {ys = ys} h x more) low few end next =
      let sizes = length-append xs ys in
      let this = c a xs (ys ++ rest) x (omega arith) (ends_behind (words table) vs true ys rest (λ t k. clear_off (words table) vs t off k) (links_begun cs ys more) next) in
      let again = links_complete off k (found ++ make o a ∷ []) cs ys rest more (omega arith) (omega arith) end next in
      ap (λ (r : Option O). links_turn table item make (links_from table item make k) found (t ∷ ((xs ++ ys) ++ rest)) r) h
      ∙ ap (λ (r : Tokens). and_then (item r) (λ a. links_from table item make k (found ++ make o a ∷ []))) (append_assoc xs ys rest)
      ∙ bind_gives _ _ a (ys ++ rest) _ rest this again
      ∙ ap (λ (all : List B). Some (all, rest)) (append_assoc found (make o a ∷ []) cs)

  link_complete : (b : Option B) (front rest : Tokens) → Link table Item make b front → length front ≤ n → Ends (words table) rest → Ends vs rest
      → Gives (link_at table item make (joins table (front ++ rest)) (front ++ rest)) b rest
  unfolding joins
  link_complete b front rest unlinked low end next = ap (λ o. link_at table item make o rest) (ends_joins table rest end)
  link_complete b front rest (linked {o = o} {t = t} {a = a} {xs = xs} h x) low end next =
      ap (λ (r : Option O). link_at table item make r (t ∷ (xs ++ rest))) h
      ∙ bind_gives (item (xs ++ rest)) _ a rest b rest (c a xs rest x (omega arith) next) refl

module _ {A : Type 0} (marks : List Mark) (item : Parser A) (Item : Rel A) (n : ℕ) (vs : List Mark) (c : Complete n item Item vs) (a : Bool) (some : a ≡ false) (begin : (x : A) (xs : Tokens) → Item x xs → Begun marks a xs) where
  many_end : (k : ℕ) (found : List A) (rest : Tokens) → Ends marks rest → Gives (many_from marks item k found rest) found rest
  many_end zero found rest end = refl
  many_end (suc k) found rest end = ap (λ b. many_turn marks item (many_from marks item k) found rest b) (ends_begins marks rest end)

  many_complete : clear marks vs ≡ true → (k : ℕ) (found all : List A) (front rest : Tokens) → Many Item all front → length front < n → length front ≤ k → Ends marks rest → Ends vs rest
      → Gives (many_from marks item k found (front ++ rest)) (found ++ all) rest
  many_complete off k found all front rest no_more low few end next = many_end k found rest end ∙ ap (λ (all : List A). Some (all, rest)) (sym (append-nil found))
  many_complete off zero found all front rest (one_more {a = x} {xs = xs} {ys = ys} h more) low few end next =
      let sizes = length-append xs ys in
      let size = begun_length marks a xs some (begin x xs h) in
      absurd (omega arith)
  many_complete off (suc k) found all front rest (one_more {a = x} {xs = xs} {bs = others} {ys = ys} h more) low few end next =
      let sizes = length-append xs ys in
      let size = begun_length marks a xs some (begin x xs h) in
      let this = c x xs (ys ++ rest) h (omega arith) (ends_behind marks vs true ys rest (λ t k. clear_off marks vs t off k) (many_begun Item marks a begin others ys more) next) in
      let again = many_complete off k (found ++ x ∷ []) others ys rest more (omega arith) (omega arith) end next in
      ap (many_from marks item (suc k) found) (append_assoc xs ys rest)
      ∙ ap (λ b. many_turn marks item (many_from marks item k) found (xs ++ (ys ++ rest)) b) (begun_begins marks a xs (ys ++ rest) some (begin x xs h))
      ∙ bind_gives _ _ x (ys ++ rest) _ rest this again
      ∙ ap (λ (all : List A). Some (all, rest)) (append_assoc found (x ∷ []) others)

-- ---- rules

or_not : (a b : Bool) → (a || not b) ≡ true → b ≡ true → a ≡ true
or_not true b h k = refl
or_not false true h k = absurd (cc)
or_not false false h k = absurd (cc)

module _ {Part : Type 0} {Tree : Part → Type 0} (e : FirstFollow Part) (R : (p : Part) → Rel (Tree p)) (inner here : (p : Part) → Parser (Tree p))
    (begin : (p : Part) (a : Tree p) (xs : Tokens) → R p a xs → Begun (e.firsts p) (e.empty p) xs) (n : ℕ) (inner_complete : (p : Part) → e.behind p ≡ false → Complete n (inner p) (R p) (e.follow_last p))
    (behind_complete' : (p : Part) → Complete n (here p) (R p) (e.follow_last p)) where
  -- the parts that may stand at the first token
  abbrev Here : ℕ → Type 0
  Here m = (p : Part) → e.behind p ≡ false → Complete m (here p) (R p) (e.follow_last p)

  here_at : (m : ℕ) → n ≤ m → m ≤ suc n → Here m → (p : Part) (b : Bool) → e.behind p ≡ b → (n < m → not b ≡ true) → Complete m (here p) (R p) (e.follow_last p)
  here_at m lo hi c p false h g = c p h
  here_at m lo hi c p true h g = λ a front rest k low end.
      let no : n < m → ⊥ = λ l. let x = g l in cc in
      behind_complete' p a front rest k (omega arith) end

  lower : (m : ℕ) → n ≤ m → Here m → Here n
  lower m lo c p own a front rest h low end = c p own a front rest h (omega arith) end

  -- m is n, or one more where each part inside stands beside a token of its own
  complete : (m : ℕ) → n ≤ m → m ≤ suc n → Here m → {A : Type 0} (r : Rule Tree A) → fits e r ≡ true → Told e R inner here r → (n < m → guarded e r ≡ true) → Complete m (read e inner here r) (Spelled R r) (stops e r)
  complete m lo hi c (part p) f t g = here_at m lo hi c p (e.behind p) refl g
  complete m lo hi c (inside p) f t g = λ a front rest h low end.
      let no : n < m → ⊥ = λ l. let k = g l in cc in
      inner_complete p (not_true (e.behind p) f) a front rest h (omega arith) end
  complete m lo hi c (given x) f t g = λ a front rest h low end. t.complete a front rest h end
  complete m lo hi c (one s) f t g = λ a front rest h low end. take_complete s a front rest h
  complete m lo hi c (nothing x) f t g = λ a front rest h low end. nothing_complete x a front rest h
  complete m lo hi c (maybe k) f t g = λ a front rest h low end. eat_complete k a front rest h end
  complete m lo hi c (◌before◌ k r) f t g =
      let below = complete n (omega arith) (omega arith) (lower m lo c) r f t (λ l. absurd (omega arith)) in
      λ a front rest h low end. before_complete (read e inner here r) (Spelled R r) n (stops e r) below k a front rest h (omega arith) end
  complete m lo hi c (◌until◌ r k) f t g =
      let two = and_true (fits e r) (apart_all k (stops e r)) f in
      let below = complete n (omega arith) (omega arith) (lower m lo c) r two.0 t (λ l. absurd (omega arith)) in
      λ a front rest h low end. until_complete (read e inner here r) (Spelled R r) n (stops e r) below k two.1 a front rest h (omega arith) (any_ends rest)
  complete m lo hi c (◌then◌ r s) f t g =
      let two = and_true (fits e r && fits e s) (clear (starts e s) (stops e r)) f in
      let parts = and_true (fits e r) (fits e s) two.0 in
      let guards = λ (l : n < m). and_true (guarded e r) (guarded e s || not (nullable e r)) (g l) in
      let last : List Mark = if nullable e s then stops e r else [] in
      let this = complete m lo hi c r parts.0 t.0 (λ l. (guards l).0) in
      let same = λ (k : nullable e r ≡ true). complete m lo hi c s parts.1 t.1 (λ l. or_not (guarded e s) (nullable e r) (guards l).1 k) in
      let below = complete n (omega arith) (omega arith) (lower m lo c) s parts.1 t.1 (λ l. absurd (omega arith)) in
      then_complete (read e inner here r) (read e inner here s) (Spelled R r) (Spelled R s) m (stops e r) (stops e s ++ last) this
      (λ a xs h b ys rest k low end. behind_complete (read e inner here s) (Spelled R s) (stops e s) n m hi below (nullable e r) same (starts e r) xs (begun e R inner here begin r t.0 a xs h) b ys rest k low (ends_both (stops e s) last rest end).0)
      (λ b ys rest k end. ends_behind (starts e s) (stops e r) (nullable e s) ys rest (λ t i. clear_off (starts e s) (stops e r) t two.1 i) (begun e R inner here begin s t.1 b ys k) (ends_both (stops e s) last rest end).1)
  complete m lo hi c (make x r) f t g = make_complete (read e inner here r) (Spelled R r) m (stops e r) (complete m lo hi c r f t g) x
  complete m lo hi c (check x r) f t g = check_complete (read e inner here r) (Spelled R r) m (stops e r) (complete m lo hi c r f t g) x
  complete m lo hi c (fork k r s) f t g =
      let two = and_true (fits e r && fits e s) (apart_all k (starts e s)) f in
      let parts = and_true (fits e r) (fits e s) two.0 in
      let below = complete n (omega arith) (omega arith) (lower m lo c) r parts.0 t.0 (λ l. absurd (omega arith)) in
      fork_complete (read e inner here r) (read e inner here s) (Spelled R r) (Spelled R s) m (stops e r) (stops e s) (complete m lo hi c s parts.1 t.1 g) n hi below k (starts e s) (nullable e s) (begun e R inner here begin s t.1) two.1
  complete m lo hi c (◌or◌ r s) f t g =
      let two = and_true (fits e r && fits e s && not (nullable e r)) (clear (starts e r) (starts e s)) f in
      let more = and_true (fits e r && fits e s) (not (nullable e r)) two.0 in
      let parts = and_true (fits e r) (fits e s) more.0 in
      let guards = λ (l : n < m). and_true (guarded e r) (guarded e s) (g l) in
      or_complete (read e inner here r) (read e inner here s) (Spelled R r) (Spelled R s) m (stops e r) (stops e s) (complete m lo hi c s parts.1 t.1 (λ l. (guards l).1)) (complete m lo hi c r parts.0 t.0 (λ l. (guards l).0))
      (starts e r) (starts e s) (nullable e r) (nullable e s) (begun e R inner here begin r t.0) (begun e R inner here begin s t.1) (not_true (nullable e r) more.1) two.1
  complete m lo hi c (ahead test marks r s) f t g =
      let parts = and_true (fits e r) (fits e s) f in
      let guards = λ (l : n < m). and_true (guarded e r) (guarded e s) (g l) in
      ahead_complete (read e inner here r) (read e inner here s) (Spelled R r) (Spelled R s) m (stops e r) (stops e s) (complete m lo hi c s parts.1 t.1 (λ l. (guards l).1)) (complete m lo hi c r parts.0 t.0 (λ l. (guards l).0))
      test marks t.2 t.3
  complete m lo hi c (prefer test marks r s) f t g =
      let parts = and_true (fits e r) (fits e s) f in
      let guards = λ (l : n < m). and_true (guarded e r) (guarded e s) (g l) in
      prefer_complete (read e inner here r) (read e inner here s) (Spelled R r) (Spelled R s) m (stops e r) (stops e s) (complete m lo hi c s parts.1 t.1 (λ l. (guards l).1)) (complete m lo hi c r parts.0 t.0 (λ l. (guards l).0))
      test marks t.3 t.4
  complete m lo hi c (links table r x) f t g =
      let two = and_true (fits e r) (clear (words table) (stops e r)) f in
      let below = complete n (omega arith) (omega arith) (lower m lo c) r two.0 t (λ l. absurd (omega arith)) in
      λ all front rest h low end.
      let sizes = length-append front rest in
      let parts = ends_both (words table) (stops e r) rest end in
      links_complete table (read e inner here r) (Spelled R r) x n (stops e r) below two.1 (length (front ++ rest)) [] all front rest h (omega arith) (omega arith) parts.0 parts.1
  complete m lo hi c (link table r x) f t g =
      let below = complete n (omega arith) (omega arith) (lower m lo c) r f t (λ l. absurd (omega arith)) in
      λ a front rest h low end.
      let parts = ends_both (words table) (stops e r) rest end in
      link_complete table (read e inner here r) (Spelled R r) x n (stops e r) below a front rest h (omega arith) parts.0 parts.1
  complete m lo hi c (many r) f t g =
      let two = and_true (fits e r && not (nullable e r)) (clear (starts e r) (stops e r)) f in
      let more = and_true (fits e r) (not (nullable e r)) two.0 in
      let this = complete m lo hi c r more.0 t g in
      λ all front rest h low end.
      let sizes = length-append front rest in
      let parts = ends_both (starts e r) (stops e r) rest end in
      many_complete (starts e r) (read e inner here r) (Spelled R r) m (stops e r) this (nullable e r) (not_true (nullable e r) more.1) (begun e R inner here begin r t) two.1 (length (front ++ rest)) [] all front rest h low (omega arith) parts.0 parts.1

  -- behind a token, where both kinds of parts are read with fewer than n tokens
  pub later : {A : Type 0} (r : Rule Tree A) → fits e r ≡ true → Told e R inner here r → Complete n (read e inner here r) (Spelled R r) (stops e r)
  later r f t = complete n (omega arith) (omega arith) (λ p own. behind_complete' p) r f t (λ l. absurd (omega arith))

  -- at the first token, where a part inside is read with one token fewer
  pub first : ((p : Part) → e.behind p ≡ false → Complete (suc n) (here p) (R p) (e.follow_last p)) → {A : Type 0} (r : Rule Tree A) → fits e r ≡ true → Told e R inner here r → guarded e r ≡ true → Complete (suc n) (read e inner here r) (Spelled R r) (stops e r)
  first c r f t g = complete (suc n) (omega arith) (omega arith) c r f t (λ l. g)
