-- A grammar as a value: the rule of each of its parts, which tokens spell a tree by it, and how it is read.
use Rattle.std.specs.Prelude.{ℕ, zero, suc, Bool, true, false, ◌&&◌, ◌||◌, if◌then◌else◌, List, [], ◌∷◌, ◌++◌, length, Option, Some, None}
use Rattle.pl_grammar.specs.Marks.{Tokens, Mark, Sort, Carried, mark_of, sees, after, begins}
use Rattle.pl_grammar.specs.Parser.{Parser, and_then, with_rest, pure, eat, expect, take, joins, links_from, link_at, many_from}
use Rattle.pl_grammar.specs.Relations.{Rel, One, Then, Before, Until, Made, Checked, Empty, Maybe, Fork, Either, Prefer, Links, Link, Many}

-- what another grammar spells, how it is read, the marks that it may begin with, those that would go on with it, and whether no token may
-- spell it
pub record Given (A : Type 0) : Type 1 where
  pub spells : Rel A
  pub reader : Parser A
  pub firsts : List Mark
  pub follow_last : List Mark
  pub empty : Bool

infixr 11 ◌then◌
infixr 12 ◌before◌
infixl 13 ◌until◌
infixr 10 ◌or◌
-- `Part` names the parts of a grammar, and `Tree` says what a part is read as
pub data Rule {Part : Type 0} (Tree : Part → Type 0) : Type 0 → Type 1 where
  -- another part, and one that stands in brackets or behind a word
  part : (p : Part) → Rule Tree (Tree p)
  inside : (p : Part) → Rule Tree (Tree p)
  -- what another grammar spells
  given : {A : Type 0} → Given A → Rule Tree A
  -- a token that carries a value
  one : (s : Sort) → Rule Tree (Carried s)
  -- no token, which stands for a value
  nothing : {A : Type 0} → A → Rule Tree A
  -- a mark that may be there
  maybe : Mark → Rule Tree Bool
  ◌before◌ : {A : Type 0} → Mark → Rule Tree A → Rule Tree A
  ◌until◌ : {A : Type 0} → Rule Tree A → Mark → Rule Tree A
  ◌then◌ : {A B : Type 0} → Rule Tree A → Rule Tree B → Rule Tree (A × B)
  make : {A B : Type 0} → (A → B) → Rule Tree A → Rule Tree B
  check : {A B : Type 0} → (A → Option B) → Rule Tree A → Rule Tree B
  -- the first rule behind the mark, or else the second
  fork : {A : Type 0} → Mark → Rule Tree A → Rule Tree A → Rule Tree A
  -- one or the other, as the first token tells
  ◌or◌ : {A : Type 0} → Rule Tree A → Rule Tree A → Rule Tree A
  -- one or the other, as a test of the tokens ahead tells. Where the test holds, the second would be followed by one of the marks.
  ahead : {A : Type 0} → (Tokens → Bool) → List Mark → Rule Tree A → Rule Tree A → Rule Tree A
  -- the first where a test of the tokens holds, and else the second, of tokens that fail the test. Where what the second spells would pass the
  -- test with what follows, that is one of the marks.
  prefer : {A : Type 0} → (Tokens → Bool) → List Mark → Rule Tree A → Rule Tree A → Rule Tree A
  -- any number of times, and at most once, a mark of a table and an item
  links : {O A B : Type 0} → List (Mark × O) → Rule Tree A → (O → A → B) → Rule Tree (List B)
  link : {O A B : Type 0} → List (Mark × O) → Rule Tree A → (O → A → B) → Rule Tree (Option B)
  -- any number of times
  many : {A : Type 0} → Rule Tree A → Rule Tree (List A)

-- ---- which tokens spell a tree

module _ {Part : Type 0} {Tree : Part → Type 0} (R : (p : Part) → Rel (Tree p)) where
  abbrev pub Spelled : {A : Type 0} → Rule Tree A → Rel A
  Spelled (part p) = R p
  Spelled (inside p) = R p
  Spelled (given g) = g.spells
  Spelled (one s) = One s
  Spelled (nothing a) = Empty a
  Spelled (maybe m) = Maybe m
  Spelled (◌before◌ m r) = Before m (Spelled r)
  Spelled (◌until◌ r m) = Until (Spelled r) m
  Spelled (◌then◌ r s) = Then (Spelled r) (Spelled s)
  Spelled (make f r) = Made f (Spelled r)
  Spelled (check f r) = Checked f (Spelled r)
  Spelled (fork m r s) = Fork m (Spelled r) (Spelled s)
  Spelled (◌or◌ r s) = Either (Spelled r) (Spelled s)
  Spelled (ahead test marks r s) = Either (Spelled r) (Spelled s)
  Spelled (prefer test marks r s) = Prefer test (Spelled r) (Spelled s)
  Spelled (links table r f) = Links table (Spelled r) f
  Spelled (link table r f) = Link table (Spelled r) f
  Spelled (many r) = Many (Spelled r)

-- by derivations of a bounded height
abbrev pub Within : {Part : Type 0} {Tree : Part → Type 0} → ((p : Part) → Rule Tree (Tree p)) → ℕ → (p : Part) → Rel (Tree p)
Within rule zero p a ts = ⊥
Within rule (suc h) p a ts = Spelled (Within rule h) (rule p) a ts

-- the tokens spell a tree of the part
abbrev pub SpelledBy : {Part : Type 0} {Tree : Part → Type 0} → ((p : Part) → Rule Tree (Tree p)) → (p : Part) → Rel (Tree p)
SpelledBy rule p a ts = (h : ℕ) × Within rule h p a ts

-- ---- how it is read

-- of each part: the marks that it may begin with, those that would go on with it, a number above those of the parts in its rule,
-- whether no token may spell it, and whether it stands behind a token of its own wherever it is named
pub record FirstFollow (Part : Type 0) : Type 0 where
  pub firsts : Part → List Mark
  pub follow_last : Part → List Mark
  pub rank : Part → ℕ
  pub empty : Part → Bool
  pub behind : Part → Bool

abbrev pub words : {O : Type 0} → List (Mark × O) → List Mark
words [] = []
words (e ∷ es) = e.0 ∷ words es

module _ {Part : Type 0} {Tree : Part → Type 0} (e : FirstFollow Part) where
  -- it may be spelled by no token
  abbrev pub nullable : {A : Type 0} → Rule Tree A → Bool
  nullable (part p) = e.empty p
  nullable (inside p) = e.empty p
  nullable (given g) = g.empty
  nullable (one s) = false
  nullable (nothing a) = true
  nullable (maybe m) = true
  nullable (◌before◌ m r) = false
  nullable (◌until◌ r m) = false
  nullable (◌then◌ r s) = nullable r && nullable s
  nullable (make f r) = nullable r
  nullable (check f r) = nullable r
  nullable (fork m r s) = nullable s
  nullable (◌or◌ r s) = nullable r || nullable s
  nullable (ahead test marks r s) = nullable r || nullable s
  nullable (prefer test marks r s) = nullable r || nullable s
  nullable (links table r f) = true
  nullable (link table r f) = true
  nullable (many r) = true

  -- the marks that it may begin with
  abbrev pub starts : {A : Type 0} → Rule Tree A → List Mark
  starts (part p) = e.firsts p
  starts (inside p) = e.firsts p
  starts (given g) = g.firsts
  starts (one s) = mark_of s ∷ []
  starts (nothing a) = []
  starts (maybe m) = m ∷ []
  starts (◌before◌ m r) = m ∷ []
  starts (◌until◌ r m) = starts r ++ (if nullable r then m ∷ [] else [])
  starts (◌then◌ r s) = starts r ++ (if nullable r then starts s else [])
  starts (make f r) = starts r
  starts (check f r) = starts r
  starts (fork m r s) = m ∷ starts s
  starts (◌or◌ r s) = starts r ++ starts s
  starts (ahead test marks r s) = starts r ++ starts s
  starts (prefer test marks r s) = starts r ++ starts s
  starts (links table r f) = words table
  starts (link table r f) = words table
  starts (many r) = starts r

  module _ (inner here : (p : Part) → Parser (Tree p)) where
    abbrev pub read : {A : Type 0} → Rule Tree A → Parser A
    read (part p) = here p
    read (inside p) = inner p
    read (given g) = g.reader
    read (one s) = take s
    read (nothing a) = pure a
    read (maybe m) = eat m
    read (◌before◌ m r) = λ ts. and_then (expect m ts) (λ _ ts. read r ts)
    read (◌until◌ r m) = λ ts. and_then (read r ts) (λ a ts. and_then (expect m ts) (λ _ ts. Some (a, ts)))
    read (◌then◌ r s) = λ ts. and_then (read r ts) (λ a ts. and_then (read s ts) (λ b ts. Some ((a, b), ts)))
    read (make f r) = λ ts. and_then (read r ts) (λ a ts. Some (f a, ts))
    read (check f r) = λ ts. and_then (read r ts) (λ a ts. with_rest (f a) ts)
    read (fork m r s) = λ ts. (if sees m ts then read r else read s) (after m ts)
    read (◌or◌ r s) = λ ts. (if begins (starts r) ts then read r else read s) ts
    read (ahead test marks r s) = λ ts. (if test ts then read r else read s) ts
    read (prefer test marks r s) = λ ts. (if test ts then read r else read s) ts
    read (links table r f) = λ ts. links_from table (read r) f (length ts) [] ts
    read (link table r f) = λ ts. link_at table (read r) f (joins table ts) ts
    read (many r) = λ ts. many_from (starts r) (read r) (length ts) [] ts

-- with at most so many parts inside one another
module _ {Part : Type 0} {Tree : Part → Type 0} (rule : (p : Part) → Rule Tree (Tree p)) (e : FirstFollow Part) where
  abbrev pub read_below : ((p : Part) → Parser (Tree p)) → ℕ → (p : Part) → Parser (Tree p)
  read_below inner zero p = λ ts. None
  read_below inner (suc k) p = read e inner (read_below inner k) (rule p)

  unfoldable pub read_inside : ℕ → (p : Part) → Parser (Tree p)
  read_inside zero p = λ ts. None
  read_inside (suc d) p = read_below (read_inside d) (suc (e.rank p)) p

  unfoldable pub read_part : ℕ → (p : Part) → Parser (Tree p)
  read_part d p = read_below (read_inside d) (suc (e.rank p)) p
