-- What is read by a rule is spelled by it.
use Rattle.std.proofs.Common.{◌≡◌, ℕ, zero, suc, Bool, true, false, if◌then◌else◌, List, [], ◌∷◌, ◌++◌, length, Option, Some, None, refl, sym, ap, ◌∙◌, subst, append_assoc, append-nil}
use Rattle.pl_lex.specs.declared.token.TokenKind.{TokenKind}
use Rattle.pl_grammar.specs.Marks.{Tokens, Mark, Sort, carried, sees, after, begins, joined_by}
use Rattle.pl_grammar.specs.Parser.{Parser, and_then, pure, with_rest, eat, expect, take, joins, links_turn, links_from, link_at, many_turn, many_from}
use Rattle.pl_grammar.specs.Relations.{Rel, One, carries, Then, both, Before, behind_mark, Until, before_mark, Made, made, Checked, checked, Empty, empty, Maybe, there, absent, Fork, with_mark, without, Either, first, second, Prefer, preferred, otherwise, Links, no_link, joined, Link, unlinked, linked, Many, no_more, one_more}
use Rattle.pl_grammar.specs.Rule.{Rule, Given, part, inside, given, one, nothing, maybe, ◌before◌, ◌until◌, ◌then◌, make, check, fork, ◌or◌, ahead, prefer, links, link, many, FirstFollow, starts, read, Spelled, Within, SpelledBy, read_below, read_inside, read_part}
use Rattle.pl_grammar.proofs.Tools.{Gives, Front, Sound, bind_some, same_pair, rest_some, expected, after_true, after_false}
use Rattle.pl_grammar.specs.Fit.{Fit, Told, Lawful}
use Rattle.pl_grammar.proofs.Heights.{spelled_by}
use Rattle.pl_grammar.proofs.Sets.{false_unless}

-- ---- one token, and none

take_sound : (s : Sort) → Sound (take s) (One s)
unfolding take
take_sound s [] a rest h = absurd (cc)
take_sound s (t ∷ ts) a rest h =
    let e = rest_some (carried s t) a ts rest h in
    record { front = t ∷ []; is = ap (λ (r : Tokens). t ∷ r) e.1; spells = carries e.0 }

nothing_sound : {A : Type 0} (a : A) → Sound (pure a) (Empty a)
nothing_sound {A} a ts b rest h =
    let e = same_pair a b ts rest h in
    record { front = []; is = e.1; spells = subst (λ (b : A). Empty a b []) e.0 empty }

maybe_at : (m : Mark) (ts : Tokens) (a : Bool) (rest : Tokens) (b : Bool) → sees m ts ≡ b → b ≡ a → after m ts ≡ rest → Front (Maybe m) ts a rest
maybe_at m ts a rest true e is past =
    let x = after_true m ts e in
    record { front = x.token ∷ []; is = x.is ∙ ap (λ (r : Tokens). x.token ∷ r) past; spells = subst (λ (a : Bool). Maybe m a (x.token ∷ [])) is (there x.marked) }
maybe_at m ts a rest false e is past = record { front = []; is = sym (after_false m ts e) ∙ past; spells = subst (λ (a : Bool). Maybe m a []) is absent }

maybe_sound : (m : Mark) → Sound (eat m) (Maybe m)
maybe_sound m ts a rest h = let e = same_pair (sees m ts) a (after m ts) rest h in maybe_at m ts a rest (sees m ts) refl e.0 e.1

-- ---- one and then the other

module _ {A B : Type 0} (p : Parser A) (q : Parser B) (R : Rel A) (S : Rel B) where
  then_sound : Sound p R → Sound q S → Sound (λ ts. and_then (p ts) (λ a ts. and_then (q ts) (λ b ts. Some ((a, b), ts)))) (Then R S)
  then_sound s t ts a rest h =
      let x = bind_some (p ts) _ a rest h in
      let y = bind_some (q x.1) _ a rest x.3 in
      let e = same_pair (x.0, y.0) a y.1 rest y.3 in
      let f = s ts x.0 x.1 x.2 in
      let g = t x.1 y.0 y.1 y.2 in
      record {
        front = f.front ++ g.front;
        is = f.is ∙ ap (λ (r : Tokens). f.front ++ r) (g.is ∙ ap (λ (r : Tokens). g.front ++ r) e.1) ∙ sym (append_assoc f.front g.front rest);
        spells = subst (λ (a : A × B). Then R S a (f.front ++ g.front)) e.0 (both f.spells g.spells);
      }

-- ---- a mark before it, or behind it

module _ {A : Type 0} (m : Mark) (p : Parser A) (R : Rel A) where
  before_sound : Sound p R → Sound (λ ts. and_then (expect m ts) (λ _ ts. p ts)) (Before m R)
  before_sound s ts a rest h =
      let o = bind_some (expect m ts) _ a rest h in
      let k = expected m ts o.0 o.1 o.2 in
      let f = s o.1 a rest o.3 in
      record { front = k.token ∷ f.front; is = k.is ∙ ap (λ (r : Tokens). k.token ∷ r) f.is; spells = behind_mark k.marked f.spells }

  until_sound : Sound p R → Sound (λ ts. and_then (p ts) (λ a ts. and_then (expect m ts) (λ _ ts. Some (a, ts)))) (Until R m)
  until_sound s ts a rest h =
      let x = bind_some (p ts) _ a rest h in
      let o = bind_some (expect m x.1) _ a rest x.3 in
      let e = same_pair x.0 a o.1 rest o.3 in
      let f = s ts x.0 x.1 x.2 in
      let k = expected m x.1 o.0 o.1 o.2 in
      record {
        front = f.front ++ k.token ∷ [];
        is = f.is ∙ ap (λ (r : Tokens). f.front ++ r) (k.is ∙ ap (λ (r : Tokens). k.token ∷ r) e.1) ∙ sym (append_assoc f.front (k.token ∷ []) rest);
        spells = subst (λ (a : A). Until R m a (f.front ++ k.token ∷ [])) e.0 (before_mark k.token f.spells k.marked);
      }

-- ---- made of what is read

module _ {A B : Type 0} (p : Parser A) (R : Rel A) where
  made_sound : (f : A → B) → Sound p R → Sound (λ ts. and_then (p ts) (λ a ts. Some (f a, ts))) (Made f R)
  made_sound f s ts b rest h =
      let x = bind_some (p ts) _ b rest h in
      let e = same_pair (f x.0) b x.1 rest x.3 in
      let g = s ts x.0 x.1 x.2 in
      record { front = g.front; is = g.is ∙ ap (λ (r : Tokens). g.front ++ r) e.1; spells = subst (λ (b : B). Made f R b g.front) e.0 (made g.spells) }

  checked_sound : (f : A → Option B) → Sound p R → Sound (λ ts. and_then (p ts) (λ a ts. with_rest (f a) ts)) (Checked f R)
  checked_sound f s ts b rest h =
      let x = bind_some (p ts) _ b rest h in
      let e = rest_some (f x.0) b x.1 rest x.3 in
      let g = s ts x.0 x.1 x.2 in
      record { front = g.front; is = g.is ∙ ap (λ (r : Tokens). g.front ++ r) e.1; spells = checked g.spells e.0 }

-- ---- one or the other

module _ {A : Type 0} (p q : Parser A) (R S : Rel A) (s : Sound p R) (t : Sound q S) where
  fork_at : (m : Mark) (ts : Tokens) (a : A) (rest : Tokens) (b : Bool) → sees m ts ≡ b → Gives ((if b then p else q) (after m ts)) a rest → Front (Fork m R S) ts a rest
  fork_at m ts a rest true e h =
      let k = after_true m ts e in
      let f = s (after m ts) a rest h in
      record { front = k.token ∷ f.front; is = k.is ∙ ap (λ (r : Tokens). k.token ∷ r) f.is; spells = with_mark k.marked f.spells }
  fork_at m ts a rest false e h =
      let f = t (after m ts) a rest h in
      record { front = f.front; is = sym (after_false m ts e) ∙ f.is; spells = without f.spells }

  fork_sound : (m : Mark) → Sound (λ ts. (if sees m ts then p else q) (after m ts)) (Fork m R S)
  fork_sound m ts a rest h = fork_at m ts a rest (sees m ts) refl h

  either_at : (ts : Tokens) (a : A) (rest : Tokens) (b : Bool) → Gives ((if b then p else q) ts) a rest → Front (Either R S) ts a rest
  either_at ts a rest true h = let f = s ts a rest h in record { front = f.front; is = f.is; spells = first f.spells }
  either_at ts a rest false h = let f = t ts a rest h in record { front = f.front; is = f.is; spells = second f.spells }

  either_sound : (test : Tokens → Bool) → Sound (λ ts. (if test ts then p else q) ts) (Either R S)
  either_sound test ts a rest h = either_at ts a rest (test ts) h

  prefer_at : (test : Tokens → Bool) → ((front rest : Tokens) → test front ≡ true → test (front ++ rest) ≡ true) → (ts : Tokens) (a : A) (rest : Tokens) (b : Bool) → test ts ≡ b
      → Gives ((if b then p else q) ts) a rest → Front (Prefer test R S) ts a rest
  prefer_at test go ts a rest true e h = let f = s ts a rest h in record { front = f.front; is = f.is; spells = preferred f.spells }
  prefer_at test go ts a rest false e h =
      let f = t ts a rest h in
      let fails = false_unless (test f.front) (λ k. let yes = go f.front rest k in let all = ap test f.is in cc) in
      record { front = f.front; is = f.is; spells = otherwise fails f.spells }

  prefer_sound : (test : Tokens → Bool) → ((front rest : Tokens) → test front ≡ true → test (front ++ rest) ≡ true) → Sound (λ ts. (if test ts then p else q) ts) (Prefer test R S)
  prefer_sound test go ts a rest h = prefer_at test go ts a rest (test ts) refl h

-- ---- any number of times

-- the list was extended by what the tokens spell
record More {B : Type 0} (R : Rel (List B)) (found : List B) (ts : Tokens) (all : List B) (rest : Tokens) : Type 0 where
  more : List B
  all_is : all ≡ found ++ more
  front : Front R ts more rest

no_longer : {B : Type 0} (R : Rel (List B)) → R [] [] → (found : List B) (ts : Tokens) (all : List B) (rest : Tokens) → Gives (pure found ts) all rest → More R found ts all rest
no_longer R none found ts all rest h =
    let e = same_pair found all ts rest h in
    record { more = []; all_is = sym e.0 ∙ sym (append-nil found); front = record { front = []; is = e.1; spells = none } }

whole : {B : Type 0} (R : Rel (List B)) (ts : Tokens) (all : List B) (rest : Tokens) → More R [] ts all rest → Front R ts all rest
whole {B} R ts all rest m = record { front = m.front.front; is = m.front.is; spells = subst (λ (bs : List B). R bs m.front.front) (sym m.all_is) m.front.spells }

module _ {O A B : Type 0} (table : List (Mark × O)) (item : Parser A) (Item : Rel A) (f : O → A → B) (s : Sound item Item) where
  abbrev LinksSound : ℕ → Type 0
  LinksSound n = (found : List B) (ts : Tokens) (all : List B) (rest : Tokens) → Gives (links_from table item f n found ts) all rest → More (Links table Item f) found ts all rest

  links_at : (n : ℕ) → LinksSound n → (found : List B) (t : TokenKind) (ts : Tokens) (all : List B) (rest : Tokens) (o : Option O) → joined_by table t ≡ o
      → Gives (links_turn table item f (links_from table item f n) found (t ∷ ts) o) all rest → More (Links table Item f) found (t ∷ ts) all rest
  links_at n ih found t ts all rest None e h = no_longer _ no_link found (t ∷ ts) all rest h
  links_at n ih found t ts all rest (Some o) e h =
      let b = bind_some (item ts) (λ a. links_from table item f n (found ++ f o a ∷ [])) all rest h in
      let x = s ts b.0 b.1 b.2 in
      let y = ih (found ++ f o b.0 ∷ []) b.1 all rest b.3 in
      record {
        more = f o b.0 ∷ y.more;
        all_is = y.all_is ∙ append_assoc found (f o b.0 ∷ []) y.more;
        front = record {
          front = t ∷ (x.front ++ y.front.front);
          is = ap (λ (r : Tokens). t ∷ r) (x.is ∙ ap (λ (r : Tokens). x.front ++ r) y.front.is ∙ sym (append_assoc x.front y.front.front rest));
          spells = joined e x.spells y.front.spells;
        };
      }

  links_turns : (n : ℕ) → LinksSound n
  unfolding joins
  links_turns zero found ts all rest h = no_longer _ no_link found ts all rest h
  links_turns (suc n) found [] all rest h = no_longer _ no_link found [] all rest h
  links_turns (suc n) found (t ∷ ts) all rest h = links_at n (links_turns n) found t ts all rest (joined_by table t) refl h

  links_sound : Sound (λ ts. links_from table item f (length ts) [] ts) (Links table Item f)
  links_sound ts a rest h = whole _ ts a rest (links_turns (length ts) [] ts a rest h)

  link_nothing : (ts : Tokens) (b : Option B) (rest : Tokens) → Gives (pure None ts) b rest → Front (Link table Item f) ts b rest
  link_nothing ts b rest h =
      let e = same_pair None b ts rest h in
      record { front = []; is = e.1; spells = subst (λ (b : Option B). Link table Item f b []) e.0 unlinked }

  link_turn : (t : TokenKind) (ts : Tokens) (b : Option B) (rest : Tokens) (o : Option O) → joined_by table t ≡ o → Gives (link_at table item f o (t ∷ ts)) b rest → Front (Link table Item f) (t ∷ ts) b rest
  link_turn t ts b rest None e h = link_nothing (t ∷ ts) b rest h
  link_turn t ts b rest (Some o) e h =
      let x = bind_some (item ts) (λ a. pure (Some (f o a))) b rest h in
      let k = same_pair (Some (f o x.0)) b x.1 rest x.3 in
      let g = s ts x.0 x.1 x.2 in
      record {
        front = t ∷ g.front;
        is = ap (λ (r : Tokens). t ∷ r) (g.is ∙ ap (λ (r : Tokens). g.front ++ r) k.1);
        spells = subst (λ (b : Option B). Link table Item f b (t ∷ g.front)) k.0 (linked e g.spells);
      }

  link_sound : Sound (λ ts. link_at table item f (joins table ts) ts) (Link table Item f)
  unfolding joins
  link_sound [] b rest h = link_nothing [] b rest h
  link_sound (t ∷ ts) b rest h = link_turn t ts b rest (joined_by table t) refl h

module _ {A : Type 0} (marks : List Mark) (item : Parser A) (Item : Rel A) (s : Sound item Item) where
  abbrev ManySound : ℕ → Type 0
  ManySound n = (found : List A) (ts : Tokens) (all : List A) (rest : Tokens) → Gives (many_from marks item n found ts) all rest → More (Many Item) found ts all rest

  many_at : (n : ℕ) → ManySound n → (found : List A) (ts : Tokens) (all : List A) (rest : Tokens) (b : Bool) → Gives (many_turn marks item (many_from marks item n) found ts b) all rest → More (Many Item) found ts all rest
  many_at n ih found ts all rest false h = no_longer _ no_more found ts all rest h
  many_at n ih found ts all rest true h =
      let b = bind_some (item ts) (λ a. many_from marks item n (found ++ a ∷ [])) all rest h in
      let x = s ts b.0 b.1 b.2 in
      let y = ih (found ++ b.0 ∷ []) b.1 all rest b.3 in
      record {
        more = b.0 ∷ y.more;
        all_is = y.all_is ∙ append_assoc found (b.0 ∷ []) y.more;
        front = record {
          front = x.front ++ y.front.front;
          is = x.is ∙ ap (λ (r : Tokens). x.front ++ r) y.front.is ∙ sym (append_assoc x.front y.front.front rest);
          spells = one_more x.spells y.front.spells;
        };
      }

  many_turns : (n : ℕ) → ManySound n
  many_turns zero found ts all rest h = no_longer _ no_more found ts all rest h
  many_turns (suc n) found ts all rest h = many_at n (many_turns n) found ts all rest (begins marks ts) h

  many_sound : Sound (λ ts. many_from marks item (length ts) [] ts) (Many Item)
  many_sound ts a rest h = whole _ ts a rest (many_turns (length ts) [] ts a rest h)

-- ---- a rule

-- the grammars that it stands on are lawful, and its tests go on to hold
abbrev Finished : {Part : Type 0} {Tree : Part → Type 0} {A : Type 0} → Rule Tree A → Type 0
Finished (part p) = Unit {0}
Finished (inside p) = Unit {0}
Finished (given g) = Lawful g
Finished (one k) = Unit {0}
Finished (nothing a) = Unit {0}
Finished (maybe m) = Unit {0}
Finished (◌before◌ m r) = Finished r
Finished (◌until◌ r m) = Finished r
Finished (◌then◌ r q) = Finished r × Finished q
Finished (make f r) = Finished r
Finished (check f r) = Finished r
Finished (fork m r q) = Finished r × Finished q
Finished (◌or◌ r q) = Finished r × Finished q
Finished (ahead test marks r q) = Finished r × Finished q
Finished (prefer test marks r q) = Finished r × Finished q × ((front rest : Tokens) → test front ≡ true → test (front ++ rest) ≡ true)
Finished (links table r f) = Finished r
Finished (link table r f) = Finished r
Finished (many r) = Finished r

module _ {Part : Type 0} {Tree : Part → Type 0} (e : FirstFollow Part) (R : (p : Part) → Rel (Tree p)) (inner here : (p : Part) → Parser (Tree p)) where
  finished : {A : Type 0} (r : Rule Tree A) → Told e R inner here r → Finished r
  finished (part p) t = tt
  finished (inside p) t = tt
  finished (given g) t = t
  finished (one k) t = tt
  finished (nothing a) t = tt
  finished (maybe m) t = tt
  finished (◌before◌ m r) t = finished r t
  finished (◌until◌ r m) t = finished r t
  finished (◌then◌ r q) t = (finished r t.0, finished q t.1)
  finished (make f r) t = finished r t
  finished (check f r) t = finished r t
  finished (fork m r q) t = (finished r t.0, finished q t.1)
  finished (◌or◌ r q) t = (finished r t.0, finished q t.1)
  finished (ahead test marks r q) t = (finished r t.0, finished q t.1)
  finished (prefer test marks r q) t = (finished r t.0, finished q t.1, t.2)
  finished (links table r f) t = finished r t
  finished (link table r f) t = finished r t
  finished (many r) t = finished r t

given_sound : {A : Type 0} (g : Given A) → Lawful g → Sound g.reader g.spells
given_sound g l ts a rest h = let f = l.sound ts rest a h in record { front = f.0; is = f.1; spells = f.2 }

pub sound : {Part : Type 0} {Tree : Part → Type 0} (e : FirstFollow Part) (R : (p : Part) → Rel (Tree p)) (inner here : (p : Part) → Parser (Tree p)) → ((p : Part) → Sound (inner p) (R p)) → ((p : Part) → Sound (here p) (R p)) → {A : Type 0} (r : Rule Tree A) → Finished r → Sound (read e inner here r) (Spelled R r)
sound e R inner here i s (part p) t = s p
sound e R inner here i s (inside p) t = i p
sound e R inner here i s (given g) t = given_sound g t
sound e R inner here i s (one k) t = take_sound k
sound e R inner here i s (nothing a) t = nothing_sound a
sound e R inner here i s (maybe m) t = maybe_sound m
sound e R inner here i s (◌before◌ m r) t = before_sound m (read e inner here r) (Spelled R r) (sound e R inner here i s r t)
sound e R inner here i s (◌until◌ r m) t = until_sound m (read e inner here r) (Spelled R r) (sound e R inner here i s r t)
sound e R inner here i s (◌then◌ r q) t = then_sound (read e inner here r) (read e inner here q) (Spelled R r) (Spelled R q) (sound e R inner here i s r t.0) (sound e R inner here i s q t.1)
sound e R inner here i s (make f r) t = made_sound (read e inner here r) (Spelled R r) f (sound e R inner here i s r t)
sound e R inner here i s (check f r) t = checked_sound (read e inner here r) (Spelled R r) f (sound e R inner here i s r t)
sound e R inner here i s (fork m r q) t = fork_sound (read e inner here r) (read e inner here q) (Spelled R r) (Spelled R q) (sound e R inner here i s r t.0) (sound e R inner here i s q t.1) m
sound e R inner here i s (◌or◌ r q) t = either_sound (read e inner here r) (read e inner here q) (Spelled R r) (Spelled R q) (sound e R inner here i s r t.0) (sound e R inner here i s q t.1) (begins (starts e r))
sound e R inner here i s (ahead test marks r q) t = either_sound (read e inner here r) (read e inner here q) (Spelled R r) (Spelled R q) (sound e R inner here i s r t.0) (sound e R inner here i s q t.1) test
sound e R inner here i s (prefer test marks r q) t = prefer_sound (read e inner here r) (read e inner here q) (Spelled R r) (Spelled R q) (sound e R inner here i s r t.0) (sound e R inner here i s q t.1) test t.2
sound e R inner here i s (links table r f) t = links_sound table (read e inner here r) (Spelled R r) f (sound e R inner here i s r t)
sound e R inner here i s (link table r f) t = link_sound table (read e inner here r) (Spelled R r) f (sound e R inner here i s r t)
sound e R inner here i s (many r) t = many_sound (starts e r) (read e inner here r) (Spelled R r) (sound e R inner here i s r t)

-- ---- the parts of a grammar

module _ {Part : Type 0} {Tree : Part → Type 0} (rule : (p : Part) → Rule Tree (Tree p)) (e : FirstFollow Part) (fit : (p : Part) → Fit rule e p) where
  part_finished : (p : Part) → Finished (rule p)
  part_finished p = finished e (Within rule 0) (read_inside rule e 0) (read_part rule e 0) (rule p) ((fit p).told 0 0)

  below_sound : (inner : (p : Part) → Parser (Tree p)) → ((p : Part) → Sound (inner p) (SpelledBy rule p)) → (k : ℕ) (p : Part) → Sound (read_below rule e inner k p) (SpelledBy rule p)
  below_sound inner s zero p ts a rest h = absurd (cc)
  below_sound inner s (suc k) p ts a rest h =
      let f = sound e (SpelledBy rule) inner (read_below rule e inner k) s (below_sound inner s k) (rule p) (part_finished p) ts a rest h in
      record { front = f.front; is = f.is; spells = spelled_by rule p a f.front f.spells }

  pub sound_inside : (d : ℕ) (p : Part) → Sound (read_inside rule e d p) (SpelledBy rule p)
  unfolding read_inside
  sound_inside zero p ts a rest h = absurd (cc)
  sound_inside (suc d) p ts a rest h = below_sound (read_inside rule e d) (sound_inside d) (suc (e.rank p)) p ts a rest h

  pub sound_part : (d : ℕ) (p : Part) → Sound (read_part rule e d p) (SpelledBy rule p)
  unfolding read_part
  sound_part d p ts a rest h = below_sound (read_inside rule e d) (sound_inside d) (suc (e.rank p)) p ts a rest h
