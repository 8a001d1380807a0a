-- The tests under which what a grammar spells is read, and read as one tree. They compute.
use Rattle.std.specs.Prelude.{◌≡◌, ℕ, Bool, true, false, not, ◌&&◌, ◌||◌, nat_lt, if◌then◌else◌, List, [], ◌∷◌, ◌++◌, Some}
use Rattle.pl_grammar.specs.Marks.{Tokens, Mark, keyword, sign, word, name, number, text, parameter, label, same_keyword, same_sign, same_text, among}
use Rattle.pl_grammar.specs.Parser.{Parser}
use Rattle.pl_grammar.specs.Relations.{Rel}
use Rattle.pl_grammar.specs.Rule.{Rule, Given, part, inside, given, one, nothing, maybe, ◌before◌, ◌until◌, ◌then◌, make, check, fork, ◌or◌, ahead, prefer, links, link, many, FirstFollow, words, nullable, starts, read, Spelled, Within, read_inside, read_part}

-- no token has both
abbrev pub apart : Mark → Mark → Bool
apart (keyword k) (keyword l) = not (same_keyword k l)
apart (sign s) (sign t) = not (same_sign s t)
apart (word v) (word w) = not (same_text v w)
apart (word v) name = false
apart name (word w) = false
apart name name = false
apart number number = false
apart text text = false
apart parameter parameter = false
apart label (keyword k) = false
apart (keyword k) label = false
apart label (word w) = false
apart (word w) label = false
apart label name = false
apart name label = false
apart label label = false
apart _ _ = true

abbrev pub apart_all : Mark → List Mark → Bool
apart_all m [] = true
apart_all m (n ∷ ns) = apart m n && apart_all m ns

abbrev pub clear : List Mark → List Mark → Bool
clear [] ns = true
clear (m ∷ ms) ns = apart_all m ns && clear ms ns

abbrev pub same_mark : Mark → Mark → Bool
same_mark (keyword k) (keyword l) = same_keyword k l
same_mark (sign s) (sign t) = same_sign s t
same_mark (word v) (word w) = same_text v w
same_mark name name = true
same_mark number number = true
same_mark text text = true
same_mark parameter parameter = true
same_mark label label = true
same_mark _ _ = false

abbrev pub member : Mark → List Mark → Bool
member m [] = false
member m (n ∷ ns) = same_mark m n || member m ns

abbrev pub included : List Mark → List Mark → Bool
included [] ns = true
included (m ∷ ms) ns = member m ns && included ms ns

module _ {Part : Type 0} {Tree : Part → Type 0} (e : FirstFollow Part) where
  -- the marks that would go on with it
  abbrev pub stops : {A : Type 0} → Rule Tree A → List Mark
  stops (part p) = e.follow_last p
  stops (inside p) = e.follow_last p
  stops (given g) = g.follow_last
  stops (one s) = []
  stops (nothing a) = []
  stops (maybe m) = m ∷ []
  stops (◌before◌ m r) = stops r
  stops (◌until◌ r m) = []
  stops (◌then◌ r s) = stops s ++ (if nullable e s then stops r else [])
  stops (make f r) = stops r
  stops (check f r) = stops r
  stops (fork m r s) = stops r ++ (stops s ++ (if nullable e s then m ∷ [] else []))
  stops (◌or◌ r s) = stops r ++ (stops s ++ (if nullable e s then starts e r else []))
  stops (ahead test marks r s) = stops r ++ (stops s ++ marks)
  stops (prefer test marks r s) = stops r ++ (stops s ++ marks)
  stops (links table r f) = words table ++ stops r
  stops (link table r f) = words table ++ stops r
  stops (many r) = starts e r ++ stops r

  -- what follows a part of a rule isn't read as a part of it, and of two rules the first token tells which it is
  abbrev pub fits : {A : Type 0} → Rule Tree A → Bool
  fits (part p) = true
  fits (inside p) = not (e.behind p)
  fits (given g) = true
  fits (one s) = true
  fits (nothing a) = true
  fits (maybe m) = true
  fits (◌before◌ m r) = fits r
  fits (◌until◌ r m) = fits r && apart_all m (stops r)
  fits (◌then◌ r s) = fits r && fits s && clear (starts e s) (stops r)
  fits (make f r) = fits r
  fits (check f r) = fits r
  fits (fork m r s) = fits r && fits s && apart_all m (starts e s)
  fits (◌or◌ r s) = fits r && fits s && not (nullable e r) && clear (starts e r) (starts e s)
  fits (ahead test marks r s) = fits r && fits s
  fits (prefer test marks r s) = fits r && fits s
  fits (links table r f) = fits r && clear (words table) (stops r)
  fits (link table r f) = fits r
  fits (many r) = fits r && not (nullable e r) && clear (starts e r) (stops r)

module _ {Part : Type 0} {Tree : Part → Type 0} (e : FirstFollow Part) where
  -- what stands inside or behind a token has one beside it
  abbrev pub guarded : {A : Type 0} → Rule Tree A → Bool
  guarded (part p) = not (e.behind p)
  guarded (inside p) = false
  guarded (given g) = true
  guarded (one s) = true
  guarded (nothing a) = true
  guarded (maybe m) = true
  guarded (◌before◌ m r) = true
  guarded (◌until◌ r m) = true
  guarded (◌then◌ r s) = guarded r && (guarded s || not (nullable e r))
  guarded (make f r) = guarded r
  guarded (check f r) = guarded r
  guarded (fork m r s) = guarded s
  guarded (◌or◌ r s) = guarded r && guarded s
  guarded (ahead test marks r s) = guarded r && guarded s
  guarded (prefer test marks r s) = guarded r && guarded s
  guarded (links table r f) = true
  guarded (link table r f) = true
  guarded (many r) = guarded r

module _ {Part : Type 0} {Tree : Part → Type 0} where
  -- its parts stand below a rank
  abbrev pub ranked : (Part → ℕ) → ℕ → {A : Type 0} → Rule Tree A → Bool
  ranked rank k (part p) = nat_lt (rank p) k
  ranked rank k (inside p) = true
  ranked rank k (given g) = true
  ranked rank k (one s) = true
  ranked rank k (nothing a) = true
  ranked rank k (maybe m) = true
  ranked rank k (◌before◌ m r) = ranked rank k r
  ranked rank k (◌until◌ r m) = ranked rank k r
  ranked rank k (◌then◌ r s) = ranked rank k r && ranked rank k s
  ranked rank k (make f r) = ranked rank k r
  ranked rank k (check f r) = ranked rank k r
  ranked rank k (fork m r s) = ranked rank k r && ranked rank k s
  ranked rank k (◌or◌ r s) = ranked rank k r && ranked rank k s
  ranked rank k (ahead test marks r s) = ranked rank k r && ranked rank k s
  ranked rank k (prefer test marks r s) = ranked rank k r && ranked rank k s
  ranked rank k (links table r f) = ranked rank k r
  ranked rank k (link table r f) = ranked rank k r
  ranked rank k (many r) = ranked rank k r

-- what follows doesn't begin with one of the marks
abbrev pub Ends : List Mark → Tokens → Type 0
Ends ms [] = Unit {0}
Ends ms (t ∷ ts) = among ms t ≡ false

-- the first token has one of the marks, or there may be none
abbrev pub Begun : List Mark → Bool → Tokens → Type 0
Begun ms is_empty [] = is_empty ≡ true
Begun ms is_empty (t ∷ ts) = among ms t ≡ true

-- another grammar is as it is said to be: what is read is spelled so, what is spelled is read where it ends, and it begins so
pub record Lawful {A : Type 0} (g : Given A) : Type 0 where
  pub sound : (ts rest : Tokens) (a : A) → g.reader ts ≡ Some (a, rest) → (front : Tokens) × (ts ≡ front ++ rest) × g.spells a front
  pub complete : (a : A) (front rest : Tokens) → g.spells a front → Ends g.follow_last rest → g.reader (front ++ rest) ≡ Some (a, rest)
  pub begun : (a : A) (front : Tokens) → g.spells a front → Begun g.firsts g.empty front

-- another grammar is lawful, and where a rule looks ahead, what the first rule spells passes the test, and what passes it and is read by the
-- second would be followed by one of the marks
module _ {Part : Type 0} {Tree : Part → Type 0} (e : FirstFollow Part) (R : (p : Part) → Rel (Tree p)) (inner here : (p : Part) → Parser (Tree p)) where
  abbrev pub Told : {A : Type 0} → Rule Tree A → Type 0
  Told (part p) = Unit {0}
  Told (inside p) = Unit {0}
  Told (given g) = Lawful g
  Told (one s) = Unit {0}
  Told (nothing a) = Unit {0}
  Told (maybe m) = Unit {0}
  Told (◌before◌ m r) = Told r
  Told (◌until◌ r m) = Told r
  Told (◌then◌ r s) = Told r × Told s
  Told (make f r) = Told r
  Told (check f r) = Told r
  Told (fork m r s) = Told r × Told s
  Told (◌or◌ r s) = Told r × Told s
  Told (ahead {A = A} test marks r s) = Told r × Told s
      × ((a : A) (front rest : Tokens) → Spelled R r a front → test (front ++ rest) ≡ true)
      × ((ts rest : Tokens) (a : A) → test ts ≡ true → read e inner here s ts ≡ Some (a, rest) → Ends marks rest → ⊥)
  Told (prefer {A = A} test marks r s) = Told r × Told s
      × ((front rest : Tokens) → test front ≡ true → test (front ++ rest) ≡ true)
      × ((a : A) (front rest : Tokens) → Spelled R r a front → test (front ++ rest) ≡ true)
      × ((a : A) (front rest : Tokens) → Spelled R s a front → test front ≡ false → test (front ++ rest) ≡ true → Ends marks rest → ⊥)
  Told (links table r f) = Told r
  Told (link table r f) = Told r
  Told (many r) = Told r

-- the tests of a part
pub record Fit {Part : Type 0} {Tree : Part → Type 0} (rule : (p : Part) → Rule Tree (Tree p)) (e : FirstFollow Part) (p : Part) : Type 0 where
  pub fits : fits e (rule p) ≡ true
  pub guarded : (e.behind p || guarded e (rule p)) ≡ true
  pub begun : nullable e (rule p) ≡ e.empty p
  pub firsts : included (starts e (rule p)) (e.firsts p) ≡ true
  pub stops : included (stops e (rule p)) (e.follow_last p) ≡ true
  pub ranked : ranked e.rank (e.rank p) (rule p) ≡ true
  pub told : (h d : ℕ) → Told e (Within rule h) (read_inside rule e d) (read_part rule e d) (rule p)
