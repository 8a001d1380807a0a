-- One step behind another.
use Rattle.std.proofs.Common.{◌≡◌, ◌∙◌, ap, sym, subst, refl, Bool, true, false, if◌then◌else◌, Option, Some, None, Result, Ok, Err}
use Rattle.pl_grammar.specs.Marks.{Tokens, Mark, sees, after}
use Rattle.pl_grammar.specs.Parser.{Outcome, Parser, Reads, and_then, with_rest, expect}
use Rattle.pl_grammar.specs.declared.fail.Fail.{Fail}
use Rattle.pl_expr_parse.specs.Follows.{Follows, before}

module _ {A : Type 0} where
  -- what reads the same
  pub as_is : (o p : Outcome A) (r : Result A Fail) (new : Tokens) → o ≡ p → Reads p r new → Reads o r new
  as_is o p r new e h = subst (λ x. Reads x r new) (sym e) h

module _ {A B : Type 0} where
  abbrev pub given : (A → Option B) → Outcome A → Outcome B
  given f o = and_then o (λ a ts. with_rest (f a) ts)

  -- of what was read another value is made
  pub follows : (f : A → Option B) (o : Outcome A) (first : Result A Fail) (r : Result B Fail) (ts : Tokens) → Reads o first ts → Follows first f r → Reads (given f o) r ts
  follows f o (Ok a) (Ok b) ts h k = ap (given f) h ∙ ap (λ (x : Option B). with_rest x ts) k
  follows f o (Ok a) (Err e) ts h k = λ is. ap (given f) h ∙ ap (λ (x : Option B). with_rest x ts) (k is)
  follows f o (Err e) (Ok b) ts h k = absurd k
  follows f o (Err e) (Err d) ts h k = λ is. ap (given f) (h (sym k ∙ is))

  -- what is read behind the first part
  pub bound : (o : Outcome A) (k : A → Parser B) (a : A) (mid new : Tokens) (r : Result B Fail) → o ≡ Some (a, mid) → Reads (k a mid) r new → Reads (and_then o k) r new
  bound o k a mid new r h x = as_is (and_then o k) (k a mid) r new (ap (λ (o : Outcome A). and_then o k) h) x

  -- ---- a mark behind what was read

  pub before_some : (f : A → B) (m : Mark) (a : A) (o : Outcome (Unit {0})) → and_then o (λ _ ts. Some (f a, ts)) ≡ and_then (and_then o (λ _ ts. Some (a, ts))) (λ a ts. Some (f a, ts))
  before_some f m a None = refl
  before_some f m a (Some p) = refl

  pub before_made : (f : A → B) (m : Mark) (o : Outcome A) → before m (and_then o (λ a ts. Some (f a, ts))) ≡ and_then (before m o) (λ a ts. Some (f a, ts))
  before_made f m None = refl
  before_made f m (Some p) = before_some f m p.0 (expect m p.1)

module _ {A : Type 0} where
  pub fork_then : (m : Mark) (p q : Parser A) (ts mid : Tokens) → sees m ts ≡ true → mid ≡ after m ts → (if sees m ts then p else q) (after m ts) ≡ p mid
  fork_then m p q ts mid h k = ap (λ (b : Bool). (if b then p else q) (after m ts)) h ∙ ap p (sym k)

  pub fork_else : (m : Mark) (p q : Parser A) (ts mid : Tokens) → sees m ts ≡ false → mid ≡ after m ts → (if sees m ts then p else q) (after m ts) ≡ q mid
  fork_else m p q ts mid h k = ap (λ (b : Bool). (if b then p else q) (after m ts)) h ∙ ap q (sym k)

module _ {A B C : Type 0} where
  pub assoc : (o : Outcome A) (k : A → Parser B) (f : B → Parser C) → and_then (and_then o k) f ≡ and_then o (λ a ts. and_then (k a ts) f)
  assoc None k f = refl
  assoc (Some p) k f = refl

module _ {A B : Type 0} where
  abbrev pub paired : A → Outcome B → Outcome (A × B)
  paired a o = and_then o (λ b ts. Some ((a, b), ts))

  abbrev pub two : Outcome A → Parser B → Outcome (A × B)
  two o q = and_then o (λ a ts. paired a (q ts))

  two_some : (q : Parser B) (a : A) (o : Outcome (Unit {0})) → paired a (and_then o (λ _ ts. q ts)) ≡ two (and_then o (λ _ ts. Some (a, ts))) q
  two_some q a None = refl
  two_some q a (Some p) = refl

  -- a mark between two parts
  pub before_two : (m : Mark) (o : Outcome A) (q : Parser B) → two o (λ ts. and_then (expect m ts) (λ _ ts. q ts)) ≡ two (before m o) q
  before_two m None q = refl
  before_two m (Some p) q = two_some q p.0 (expect m p.1)

  -- a mark behind both
  pub before_paired : (m : Mark) (a : A) (o : Outcome B) → before m (paired a o) ≡ paired a (before m o)
  before_paired m a None = refl
  before_paired m a (Some p) = before_some (λ b. (a, b)) m p.0 (expect m p.1)

module _ {A B C : Type 0} where
  -- a mark behind what is made of both
  pub before_pair : (f : A × B → C) (m : Mark) (a : A) (o : Outcome B) → before m (and_then (paired a o) (λ p ts. Some (f p, ts))) ≡ and_then (before m o) (λ b ts. Some (f (a, b), ts))
  before_pair f m a None = refl
  before_pair f m a (Some p) = before_some (λ b. f (a, b)) m p.0 (expect m p.1)

  again : (f : A × B → Option C) (a : A) (o : Outcome B) → given f (paired a o) ≡ given (λ b. f (a, b)) o
  again f a None = refl
  again f a (Some p) = refl

  -- of two parts another value is made
  pub second : (f : A × B → Option C) (o : Outcome A) (q : Parser B) (a : A) (next : Result B Fail) (r : Result C Fail) (mid new : Tokens) → o ≡ Some (a, mid) → Reads (q mid) next new → Follows next (λ b. f (a, b)) r → Reads (given f (two o q)) r new
  second f o q a next r mid new h k l =
      as_is (given f (two o q)) (given (λ b. f (a, b)) (q mid)) r new (ap (λ (o : Outcome A). given f (two o q)) h ∙ again f a (q mid))
      (follows (λ b. f (a, b)) (q mid) next r new k l)

module _ {A B : Type 0} where
  -- of two parts both
  pub both : (o : Outcome A) (q : Parser B) (a : A) (next : Result B Fail) (r : Result (A × B) Fail) (mid new : Tokens) → o ≡ Some (a, mid) → Reads (q mid) next new → Follows next (λ b. Some (a, b)) r → Reads (two o q) r new
  both o q a next r mid new h k l =
      as_is (two o q) (given (λ b. Some (a, b)) (q mid)) r new (ap (λ (o : Outcome A). two o q) h) (follows (λ b. Some (a, b)) (q mid) next r new k l)

module _ {A B C D : Type 0} where
  again_three : (f : A × (B × C) → Option D) (a : A) (b : B) (o : Outcome C) → given f (paired a (paired b o)) ≡ given (λ x. f (a, (b, x))) o
  again_three f a b None = refl
  again_three f a b (Some p) = refl

  -- of three parts another value is made
  pub third : (f : A × (B × C) → Option D) (o : Outcome A) (q : Parser B) (s : Parser C) (a : A) (b : B) (next : Result C Fail) (r : Result D Fail) (one mid new : Tokens)
      → o ≡ Some (a, one) → q one ≡ Some (b, mid) → Reads (s mid) next new → Follows next (λ x. f (a, (b, x))) r → Reads (given f (two o (λ ts. two (q ts) s))) r new
  third f o q s a b next r one mid new h k l n =
      as_is (given f (two o (λ ts. two (q ts) s))) (given (λ x. f (a, (b, x))) (s mid)) r new
      (ap (λ (o : Outcome A). given f (two o (λ ts. two (q ts) s))) h ∙ ap (λ (o : Outcome B). given f (paired a (two o s))) k ∙ again_three f a b (s mid))
      (follows (λ x. f (a, (b, x))) (s mid) next r new l n)
