-- Higher derivations spell what lower ones do, and what a rule spells has a derivation of some height.
use Rattle.std.proofs.Common.{ℕ, zero, suc, ◌+◌, ◌≤◌, List, arith}
use Rattle.pl_grammar.specs.Marks.{Tokens, Mark}
use Rattle.pl_grammar.specs.Relations.{Rel, both, behind_mark, before_mark, made, checked, with_mark, without, first, second, preferred, otherwise, Links, no_link, joined, unlinked, linked, Many, no_more, one_more}
use Rattle.pl_grammar.specs.Rule.{Rule, part, inside, given, one, nothing, maybe, ◌before◌, ◌until◌, ◌then◌, make, check, fork, ◌or◌, ahead, prefer, links, link, many, Spelled, Within, SpelledBy}

-- ---- in other relations

links_mapped : {O A B : Type 0} (table : List (Mark × O)) (f : O → A → B) (R S : Rel A) → ((a : A) (xs : Tokens) → R a xs → S a xs) → (bs : List B) (xs : Tokens) → Links table R f bs xs → Links table S f bs xs
links_mapped table f R S m bs front no_link = no_link
links_mapped table f R S m bs front (joined {a = a} {xs = xs} {bs = cs} {ys = ys} e x more) = joined e (m a xs x) (links_mapped table f R S m cs ys more)

many_mapped : {A : Type 0} (R S : Rel A) → ((a : A) (xs : Tokens) → R a xs → S a xs) → (bs : List A) (xs : Tokens) → Many R bs xs → Many S bs xs
many_mapped R S m bs front no_more = no_more
many_mapped R S m bs front (one_more {a = a} {xs = xs} {bs = cs} {ys = ys} x more) = one_more (m a xs x) (many_mapped R S m cs ys more)

pub mapped : {Part : Type 0} {Tree : Part → Type 0} (R S : (p : Part) → Rel (Tree p)) → ((p : Part) (a : Tree p) (xs : Tokens) → R p a xs → S p a xs) → {A : Type 0} (r : Rule Tree A) (a : A) (xs : Tokens) → Spelled R r a xs → Spelled S r a xs
mapped R S m (part p) a xs d = m p a xs d
mapped R S m (inside p) a xs d = m p a xs d
mapped R S m (given g) a xs d = d
mapped R S m (one s) a xs d = d
mapped R S m (nothing b) a xs d = d
mapped R S m (maybe k) a xs d = d
mapped R S m (◌before◌ k r) a front (behind_mark {xs = xs} e d) = behind_mark e (mapped R S m r a xs d)
mapped R S m (◌until◌ r k) a front (before_mark t {xs = xs} d e) = before_mark t (mapped R S m r a xs d) e
mapped R S m (◌then◌ r s) ab front (both {a = a} {b = b} {xs = xs} {ys = ys} d e) = both (mapped R S m r a xs d) (mapped R S m s b ys e)
mapped R S m (make f r) b xs (made {a = a} d) = made (mapped R S m r a xs d)
mapped R S m (check f r) b xs (checked {a = a} d e) = checked (mapped R S m r a xs d) e
mapped R S m (fork k r s) a front (with_mark {xs = xs} e d) = with_mark e (mapped R S m r a xs d)
mapped R S m (fork k r s) a xs (without d) = without (mapped R S m s a xs d)
mapped R S m (◌or◌ r s) a xs (first d) = first (mapped R S m r a xs d)
mapped R S m (◌or◌ r s) a xs (second d) = second (mapped R S m s a xs d)
mapped R S m (ahead test marks r s) a xs (first d) = first (mapped R S m r a xs d)
mapped R S m (ahead test marks r s) a xs (second d) = second (mapped R S m s a xs d)
mapped R S m (prefer test marks r s) a xs (preferred d) = preferred (mapped R S m r a xs d)
mapped R S m (prefer test marks r s) a xs (otherwise fails d) = otherwise fails (mapped R S m s a xs d)
mapped R S m (links table r f) bs xs d = links_mapped table f (Spelled R r) (Spelled S r) (mapped R S m r) bs xs d
mapped R S m (link table r f) b front unlinked = unlinked
mapped R S m (link table r f) b front (linked {a = a} {xs = xs} e d) = linked e (mapped R S m r a xs d)
mapped R S m (many r) bs xs d = many_mapped (Spelled R r) (Spelled S r) (mapped R S m r) bs xs d

-- ---- heights

pub higher : {Part : Type 0} {Tree : Part → Type 0} (rule : (p : Part) → Rule Tree (Tree p)) (h k : ℕ) → h ≤ k → (p : Part) (a : Tree p) (xs : Tokens) → Within rule h p a xs → Within rule k p a xs
higher rule zero k low p a xs d = absurd d
higher rule (suc h) zero low p a xs d = absurd (omega arith)
higher rule (suc h) (suc k) low p a xs d = mapped (Within rule h) (Within rule k) (higher rule h k (omega arith)) (rule p) a xs d

module _ {Part : Type 0} {Tree : Part → Type 0} (rule : (p : Part) → Rule Tree (Tree p)) where
  pub spelled_higher : (h k : ℕ) → h ≤ k → {A : Type 0} (r : Rule Tree A) (a : A) (xs : Tokens) → Spelled (Within rule h) r a xs → Spelled (Within rule k) r a xs
  spelled_higher h k low r a xs d = mapped (Within rule h) (Within rule k) (higher rule h k low) r a xs d

  -- it is spelled with parts of some height
  abbrev Closed : {A : Type 0} → Rule Tree A → A → Tokens → Type 0
  Closed r a xs = (h : ℕ) × Spelled (Within rule h) r a xs

  links_closed : {O A B : Type 0} (table : List (Mark × O)) (f : O → A → B) (r : Rule Tree A) → ((a : A) (xs : Tokens) → Spelled (SpelledBy rule) r a xs → Closed r a xs)
      → (bs : List B) (xs : Tokens) → Links table (Spelled (SpelledBy rule) r) f bs xs → Closed (links table r f) bs xs
  links_closed table f r c bs front no_link = (0, no_link)
  links_closed table f r c bs front (joined {a = a} {xs = xs} {bs = cs} {ys = ys} e d more) =
      let x = c a xs d in
      let y = links_closed table f r c cs ys more in
      (x.0 + y.0, joined e (spelled_higher x.0 (x.0 + y.0) (omega arith) r a xs x.1) (spelled_higher y.0 (x.0 + y.0) (omega arith) (links table r f) cs ys y.1))

  many_closed : {A : Type 0} (r : Rule Tree A) → ((a : A) (xs : Tokens) → Spelled (SpelledBy rule) r a xs → Closed r a xs) → (bs : List A) (xs : Tokens) → Many (Spelled (SpelledBy rule) r) bs xs → Closed (many r) bs xs
  many_closed r c bs front no_more = (0, no_more)
  many_closed r c bs front (one_more {a = a} {xs = xs} {bs = cs} {ys = ys} d more) =
      let x = c a xs d in
      let y = many_closed r c cs ys more in
      (x.0 + y.0, one_more (spelled_higher x.0 (x.0 + y.0) (omega arith) r a xs x.1) (spelled_higher y.0 (x.0 + y.0) (omega arith) (many r) cs ys y.1))

  pub closed : {A : Type 0} (r : Rule Tree A) (a : A) (xs : Tokens) → Spelled (SpelledBy rule) r a xs → (h : ℕ) × Spelled (Within rule h) r a xs
  closed (part p) a xs d = d
  closed (inside p) a xs d = d
  closed (given g) a xs d = (0, d)
  closed (one s) a xs d = (0, d)
  closed (nothing b) a xs d = (0, d)
  closed (maybe k) a xs d = (0, d)
  closed (◌before◌ k r) a front (behind_mark {xs = xs} e d) = let x = closed r a xs d in (x.0, behind_mark e x.1)
  closed (◌until◌ r k) a front (before_mark t {xs = xs} d e) = let x = closed r a xs d in (x.0, before_mark t x.1 e)
  closed (◌then◌ r s) ab front (both {a = a} {b = b} {xs = xs} {ys = ys} d e) =
      let x = closed r a xs d in
      let y = closed s b ys e in
      (x.0 + y.0, both (spelled_higher x.0 (x.0 + y.0) (omega arith) r a xs x.1) (spelled_higher y.0 (x.0 + y.0) (omega arith) s b ys y.1))
  closed (make f r) b xs (made {a = a} d) = let x = closed r a xs d in (x.0, made x.1)
  closed (check f r) b xs (checked {a = a} d e) = let x = closed r a xs d in (x.0, checked x.1 e)
  closed (fork k r s) a front (with_mark {xs = xs} e d) = let x = closed r a xs d in (x.0, with_mark e x.1)
  closed (fork k r s) a xs (without d) = let x = closed s a xs d in (x.0, without x.1)
  closed (◌or◌ r s) a xs (first d) = let x = closed r a xs d in (x.0, first x.1)
  closed (◌or◌ r s) a xs (second d) = let x = closed s a xs d in (x.0, second x.1)
  closed (ahead test marks r s) a xs (first d) = let x = closed r a xs d in (x.0, first x.1)
  closed (ahead test marks r s) a xs (second d) = let x = closed s a xs d in (x.0, second x.1)
  closed (prefer test marks r s) a xs (preferred d) = let x = closed r a xs d in (x.0, preferred x.1)
  closed (prefer test marks r s) a xs (otherwise fails d) = let x = closed s a xs d in (x.0, otherwise fails x.1)
  closed (links table r f) bs xs d = links_closed table f r (closed r) bs xs d
  closed (link table r f) b front unlinked = (0, unlinked)
  closed (link table r f) b front (linked {a = a} {xs = xs} e d) = let x = closed r a xs d in (x.0, linked e x.1)
  closed (many r) bs xs d = many_closed r (closed r) bs xs d

  pub spelled_by : (p : Part) (a : Tree p) (xs : Tokens) → Spelled (SpelledBy rule) (rule p) a xs → SpelledBy rule p a xs
  spelled_by p a xs d = let x = closed (rule p) a xs d in (suc x.0, x.1)
