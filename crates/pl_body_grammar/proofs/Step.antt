-- Steps of the parser: a part is read by its rule, and a rule by its form.
use Rattle.std.proofs.Common.{◌≡◌, ◌∙◌, ap, sym, subst, refl, Bool, true, false, if◌then◌else◌, List, Option, Some, None, Result, Ok, Err}
use Rattle.pl_grammar.specs.Marks.{Tokens, Mark, sees, after, begins}
use Rattle.pl_grammar.specs.declared.fail.Fail.{Fail}
use Rattle.pl_grammar.specs.Parser.{Outcome, Parser, Reads, Makes, and_then, expect, with_rest}
use Rattle.pl_grammar.specs.Rule.{fork, prefer, make, check, maybe, ◌before◌, ◌until◌, ◌then◌, ◌or◌, starts}
use Rattle.pl_grammar.proofs.Same.{reads_is}
use Rattle.pl_body_grammar.specs.Grammar.{Part, Tree, R, rule}
use Rattle.pl_body_grammar.specs.FirstFollow.{first_follow, reads, reads_part}
use Rattle.pl_body_grammar.proofs.Fits.{all_ranked}

step : (p : Part) (ts : Tokens) → reads_part p ts ≡ reads (rule p) ts
unfolding reads_part
step p ts = reads_is rule first_follow all_ranked 0 p ts

-- what is read by a rule, as a word of its own: so that a lemma's rule is found from its goal
unfoldable pub by : {A : Type 0} → R A → Tokens → Outcome A
by r ts = reads r ts

pub was : {A : Type 0} (r : R A) (ts : Tokens) (o : Outcome A) → reads r ts ≡ o → by r ts ≡ o
unfolding by
was r ts o h = h

pub reading : {A : Type 0} (r : R A) (ts : Tokens) (o : Outcome A) → by r ts ≡ o → reads r ts ≡ o
unfolding by
reading r ts o h = h

pub gives : (p : Part) (ts : Tokens) (o : Outcome (Tree p)) → by (rule p) ts ≡ o → reads_part p ts ≡ o
unfolding by
gives p ts o h = step p ts ∙ h

-- a function that reads what the rule of a part reads
pub reads_rule : (p : Part) (ts new : Tokens) (x : Result (Tree p) Fail) → Reads (reads (rule p) ts) x new → Reads (reads_part p ts) x new
reads_rule p ts new x h = subst (λ (o : Outcome (Tree p)). Reads o x new) (sym (step p ts)) h

pub reads_by : (p : Part) (ts new : Tokens) (x : Result (Tree p) Fail) → Reads (by (rule p) ts) x new → Reads (reads_part p ts) x new
unfolding by
reads_by p ts new x h = reads_rule p ts new x h

-- a function that reads what a rule comes to
pub so_read : {A : Type 0} (o q : Outcome A) (x : Result A Fail) (new : Tokens) → o ≡ q → Reads q x new → Reads o x new
so_read {A} o q x new e h = subst (λ (o : Outcome A). Reads o x new) (sym e) h

-- a value that is another one
pub so_made : {A : Type 0} (o : Outcome A) (a b : A) (new : Tokens) → b ≡ a → o ≡ Some (a, new) → o ≡ Some (b, new)
so_made {A} o a b new e h = h ∙ ap (λ (a : A). Some (a, new)) (sym e)

-- ---- marks. Each of these takes what is read behind, and a rule with the form that it has.

read_then : {A : Type 0} (b : Bool) (p q : Parser A) (ts : Tokens) → b ≡ true → (if b then p else q) ts ≡ p ts
read_then b p q ts h = ap (λ (b : Bool). (if b then p else q) ts) h

read_else : {A : Type 0} (b : Bool) (p q : Parser A) (ts : Tokens) → b ≡ false → (if b then p else q) ts ≡ q ts
read_else b p q ts h = ap (λ (b : Bool). (if b then p else q) ts) h

of_form : {A : Type 0} (q r : R A) (ts : Tokens) (o : Outcome A) → q ≡ r → reads r ts ≡ o → reads q ts ≡ o
of_form {A} q r ts o f h = subst (λ (r : R A). reads r ts ≡ o) (sym f) h

-- where the mark comes next, and where it doesn't
pub took : {A : Type 0} (q : R A) (m : Mark) (r s : R A) (ts at : Tokens) (b : Bool) (o : Outcome A) → q ≡ fork m r s → b ≡ sees m ts → b ≡ true → at ≡ after m ts → by r at ≡ o → by q ts ≡ o
unfolding by
took q m r s ts at b o f e h n k = of_form q (fork m r s) ts o f (read_then (sees m ts) (reads r) (reads s) (after m ts) (sym e ∙ h) ∙ ap (reads r) (sym n) ∙ k)

pub left : {A : Type 0} (q : R A) (m : Mark) (r s : R A) (ts at : Tokens) (b : Bool) (o : Outcome A) → q ≡ fork m r s → b ≡ sees m ts → b ≡ false → at ≡ after m ts → by s at ≡ o → by q ts ≡ o
unfolding by
left q m r s ts at b o f e h n k = of_form q (fork m r s) ts o f (read_else (sees m ts) (reads r) (reads s) (after m ts) (sym e ∙ h) ∙ ap (reads s) (sym n) ∙ k)

expect_there : (m : Mark) (ts : Tokens) → sees m ts ≡ true → expect m ts ≡ Some (tt, after m ts)
unfolding expect after
expect_there m ts h = rw h

expect_absent : (m : Mark) (ts : Tokens) → sees m ts ≡ false → expect m ts ≡ None
unfolding expect
expect_absent m ts h = rw h

pub behind : {A : Type 0} (q : R A) (m : Mark) (r : R A) (ts at : Tokens) (b : Bool) (o : Outcome A) → q ≡ m before r → b ≡ sees m ts → b ≡ true → at ≡ after m ts → by r at ≡ o → by q ts ≡ o
unfolding by
behind q m r ts at b o f e h n k = of_form q (m before r) ts o f (ap (λ (o : Outcome (Unit {0})). and_then o (λ _ ts. reads r ts)) (expect_there m ts (sym e ∙ h)) ∙ ap (reads r) (sym n) ∙ k)

pub absent : {A : Type 0} (q : R A) (m : Mark) (r : R A) (ts : Tokens) (b : Bool) → q ≡ m before r → b ≡ sees m ts → b ≡ false → by q ts ≡ None
unfolding by
absent q m r ts b f e h = of_form q (m before r) ts None f (ap (λ (o : Outcome (Unit {0})). and_then o (λ _ ts. reads r ts)) (expect_absent m ts (sym e ∙ h)))

pub skipped : (q : R Bool) (m : Mark) (ts at : Tokens) (b : Bool) → q ≡ maybe m → b ≡ sees m ts → at ≡ after m ts → by q ts ≡ Some (b, at)
unfolding by
skipped q m ts at b f e n = of_form q (maybe m) ts (Some (b, at)) f (ap (λ (b : Bool). Some (b, after m ts)) (sym e) ∙ ap (λ (at : Tokens). Some (b, at)) (sym n))

pub no_value : (o : Outcome (Unit {0})) (x : Result (Unit {0}) Fail) (new : Tokens) → Reads o x new → Reads (and_then o (λ _ ts. Some (tt, ts))) x new
no_value o (Ok u) new h = ap (λ (o : Outcome (Unit {0})). and_then o (λ _ ts. Some (tt, ts))) h
no_value o (Err e) new h = λ s. ap (λ (o : Outcome (Unit {0})). and_then o (λ _ ts. Some (tt, ts))) (h s)

-- ---- tests

pub begun : {A : Type 0} (q r s : R A) (ts : Tokens) (b : Bool) (o : Outcome A) → q ≡ r or s → b ≡ begins (starts first_follow r) ts → b ≡ true → by r ts ≡ o → by q ts ≡ o
unfolding by
begun q r s ts b o f e h k = of_form q (r or s) ts o f (read_then (begins (starts first_follow r) ts) (reads r) (reads s) ts (sym e ∙ h) ∙ k)

pub other : {A : Type 0} (q r s : R A) (ts : Tokens) (b : Bool) (o : Outcome A) → q ≡ r or s → b ≡ begins (starts first_follow r) ts → b ≡ false → by s ts ≡ o → by q ts ≡ o
unfolding by
other q r s ts b o f e h k = of_form q (r or s) ts o f (read_else (begins (starts first_follow r) ts) (reads r) (reads s) ts (sym e ∙ h) ∙ k)

pub told : {A : Type 0} (q : R A) (test : Tokens → Bool) (ms : List Mark) (r s : R A) (ts : Tokens) (b : Bool) (o : Outcome A) → q ≡ prefer test ms r s → b ≡ test ts → b ≡ true → by r ts ≡ o → by q ts ≡ o
unfolding by
told q test ms r s ts b o f e h k = of_form q (prefer test ms r s) ts o f (read_then (test ts) (reads r) (reads s) ts (sym e ∙ h) ∙ k)

pub untold : {A : Type 0} (q : R A) (test : Tokens → Bool) (ms : List Mark) (r s : R A) (ts : Tokens) (b : Bool) (o : Outcome A) → q ≡ prefer test ms r s → b ≡ test ts → b ≡ false → by s ts ≡ o → by q ts ≡ o
unfolding by
untold q test ms r s ts b o f e h k = of_form q (prefer test ms r s) ts o f (read_else (test ts) (reads r) (reads s) ts (sym e ∙ h) ∙ k)

-- ---- parts

pub makes : {A B : Type 0} (q : R B) (f : A → B) (r : R A) (ts new : Tokens) (a : A) (b : B) → q ≡ make f r → by r ts ≡ Some (a, new) → f a ≡ b → by q ts ≡ Some (b, new)
unfolding by
makes {A} {B} q f r ts new a b g h e = of_form q (make f r) ts (Some (b, new)) g (ap (λ (o : Outcome A). and_then o (λ a ts. Some (f a, ts))) h ∙ ap (λ (b : B). Some (b, new)) e)

pub makes_none : {A B : Type 0} (q : R B) (f : A → B) (r : R A) (ts : Tokens) → q ≡ make f r → by r ts ≡ None → by q ts ≡ None
unfolding by
makes_none {A} q f r ts g h = of_form q (make f r) ts None g (ap (λ (o : Outcome A). and_then o (λ a ts. Some (f a, ts))) h)

pub pairs : {A B : Type 0} (q : R (A × B)) (r : R A) (s : R B) (ts at new : Tokens) (a : A) (b : B) → q ≡ r then s → by r ts ≡ Some (a, at) → by s at ≡ Some (b, new) → by q ts ≡ Some ((a, b), new)
unfolding by
pairs {A} {B} q r s ts at new a b f h k = of_form q (r then s) ts (Some ((a, b), new)) f (ap (λ (o : Outcome A). and_then {B = A × B} o (λ a ts. and_then {B = A × B} (reads s ts) (λ b ts. Some ((a, b), ts)))) h ∙ ap (λ (o : Outcome B). and_then {B = A × B} o (λ b ts. Some ((a, b), ts))) k)

pub first_none : {A B : Type 0} (q : R (A × B)) (r : R A) (s : R B) (ts : Tokens) → q ≡ r then s → by r ts ≡ None → by q ts ≡ None
unfolding by
first_none {A} {B} q r s ts f h = of_form q (r then s) ts None f (ap (λ (o : Outcome A). and_then {B = A × B} o (λ a ts. and_then {B = A × B} (reads s ts) (λ b ts. Some ((a, b), ts)))) h)

pub second_none : {A B : Type 0} (q : R (A × B)) (r : R A) (s : R B) (ts at : Tokens) (a : A) → q ≡ r then s → by r ts ≡ Some (a, at) → by s at ≡ None → by q ts ≡ None
unfolding by
second_none {A} {B} q r s ts at a f h k = of_form q (r then s) ts None f (ap (λ (o : Outcome A). and_then {B = A × B} o (λ a ts. and_then {B = A × B} (reads s ts) (λ b ts. Some ((a, b), ts)))) h ∙ ap (λ (o : Outcome B). and_then {B = A × B} o (λ b ts. Some ((a, b), ts))) k)

same_value : {A : Type 0} (o : Outcome A) → and_then o (λ a ts. Some (a, ts)) ≡ o
same_value None = refl
same_value (Some p) = refl

pub itself : {A : Type 0} (r : R A) (ts new : Tokens) (x : Result A Fail) → Reads (reads r ts) x new → Reads (reads (make (λ a. a) r) ts) x new
itself r ts new x h = so_read _ _ x new (same_value (reads r ts)) h

fused : {A B C : Type 0} (f : A × B → C) (a : A) (o : Outcome B) → and_then {A = A × B} (and_then {B = A × B} o (λ b ts. Some ((a, b), ts))) (λ p ts. Some (f p, ts)) ≡ and_then o (λ b ts. Some (f (a, b), ts))
fused f a None = refl
fused f a (Some p) = refl

made_of_both : {A B C : Type 0} (f : A × B → C) (r : R A) (s : R B) (ts at : Tokens) (a : A) → reads r ts ≡ Some (a, at) → reads (make f (r then s)) ts ≡ reads (make (λ b. f (a, b)) s) at
made_of_both {A} {B} {C} f r s ts at a h = ap (λ (o : Outcome A). and_then {A = A × B} {B = C} (and_then {B = A × B} o (λ a ts. and_then {B = A × B} (reads s ts) (λ b ts. Some ((a, b), ts)))) (λ p ts. Some (f p, ts))) h ∙ fused f a (reads s at)

-- where what is behind a part makes something of both
pub made_behind : {A B C : Type 0} (q : R C) (f : A × B → C) (r : R A) (s : R B) (ts at new : Tokens) (a : A) (x : Result C Fail) → q ≡ make f (r then s) → by r ts ≡ Some (a, at) → Reads (reads (make (λ b. f (a, b)) s) at) x new → Reads (by q ts) x new
unfolding by
made_behind {A} {B} {C} q f r s ts at new a x g h k = so_read _ _ x new (of_form q (make f (r then s)) ts _ g (made_of_both f r s ts at a h)) k

makes_read : {A : Type 0} (made : Option A) (x : Result A Fail) (ts : Tokens) → Makes made x → Reads (with_rest made ts) x ts
makes_read {A} made (Ok a) ts h = ap (λ (made : Option A). with_rest made ts) h
makes_read {A} made (Err e) ts h = λ s. ap (λ (made : Option A). with_rest made ts) (h s)

pub checks : {A B : Type 0} (q : R B) (f : A → Option B) (r : R A) (ts new : Tokens) (a : A) (x : Result B Fail) → q ≡ check f r → by r ts ≡ Some (a, new) → Makes (f a) x → Reads (by q ts) x new
unfolding by
checks {A} q f r ts new a x g h k = so_read _ _ x new (of_form q (check f r) ts _ g (ap (λ (o : Outcome A). and_then o (λ a ts. with_rest (f a) ts)) h)) (makes_read (f a) x new k)

pub checks_none : {A B : Type 0} (q : R B) (f : A → Option B) (r : R A) (ts : Tokens) → q ≡ check f r → by r ts ≡ None → by q ts ≡ None
unfolding by
checks_none {A} q f r ts g h = of_form q (check f r) ts None g (ap (λ (o : Outcome A). and_then o (λ a ts. with_rest (f a) ts)) h)

-- ---- a mark before or behind parts

pub closed : {A : Type 0} (q r : R A) (m : Mark) (ts at new : Tokens) (b : Bool) (a : A) → q ≡ r until m → by r ts ≡ Some (a, at) → b ≡ sees m at → b ≡ true → new ≡ after m at → by q ts ≡ Some (a, new)
unfolding by
closed {A} q r m ts at new b a f h e k n = of_form q (r until m) ts _ f (ap (λ (o : Outcome A). and_then o (λ a ts. and_then (expect m ts) (λ _ ts. Some (a, ts)))) h ∙ ap (λ (o : Outcome (Unit {0})). and_then o (λ _ ts. Some (a, ts))) (expect_there m at (sym e ∙ k)) ∙ ap (λ (new : Tokens). Some (a, new)) (sym n))

pub unclosed : {A : Type 0} (q r : R A) (m : Mark) (ts at : Tokens) (b : Bool) (a : A) → q ≡ r until m → by r ts ≡ Some (a, at) → b ≡ sees m at → b ≡ false → by q ts ≡ None
unfolding by
unclosed {A} q r m ts at b a f h e k = of_form q (r until m) ts _ f (ap (λ (o : Outcome A). and_then o (λ a ts. and_then (expect m ts) (λ _ ts. Some (a, ts)))) h ∙ ap (λ (o : Outcome (Unit {0})). and_then o (λ _ ts. Some (a, ts))) (expect_absent m at (sym e ∙ k)))

pub until_none : {A : Type 0} (q r : R A) (m : Mark) (ts : Tokens) → q ≡ r until m → by r ts ≡ None → by q ts ≡ None
unfolding by
until_none {A} q r m ts f h = of_form q (r until m) ts _ f (ap (λ (o : Outcome A). and_then o (λ a ts. and_then (expect m ts) (λ _ ts. Some (a, ts)))) h)

module _ {A B : Type 0} where
  until_one : (a : A) (b : B) (e : Outcome (Unit {0})) → and_then {B = A × B} e (λ _ ts. Some ((a, b), ts)) ≡ and_then {B = A × B} (and_then e (λ _ ts. Some (b, ts))) (λ b ts. Some ((a, b), ts))
  until_one a b None = refl
  until_one a b (Some p) = refl

  until_two : (a : A) (o : Outcome B) (e : Parser (Unit {0})) → and_then {B = A × B} (and_then {B = A × B} o (λ b ts. Some ((a, b), ts))) (λ p ts. and_then (e ts) (λ _ ts. Some (p, ts))) ≡ and_then {B = A × B} (and_then o (λ b ts. and_then (e ts) (λ _ ts. Some (b, ts)))) (λ b ts. Some ((a, b), ts))
  until_two a None e = refl
  until_two a (Some p) e = until_one a p.0 (e p.1)

  until_both : (o : Outcome A) (q : Parser B) (e : Parser (Unit {0})) → and_then {B = A × B} (and_then {B = A × B} o (λ a ts. and_then {B = A × B} (q ts) (λ b ts. Some ((a, b), ts)))) (λ p ts. and_then (e ts) (λ _ ts. Some (p, ts))) ≡ and_then {B = A × B} o (λ a ts. and_then {B = A × B} (and_then (q ts) (λ b ts. and_then (e ts) (λ _ ts. Some (b, ts)))) (λ b ts. Some ((a, b), ts)))
  until_both None q e = refl
  until_both (Some p) q e = until_two p.0 (q p.1) e

  before_both : (e : Outcome (Unit {0})) (p : Parser A) (f : A → Parser B) → and_then (and_then e (λ _ ts. p ts)) f ≡ and_then e (λ _ ts. and_then (p ts) f)
  before_both None p f = refl
  before_both (Some x) p f = refl

pub until_last : {A B : Type 0} (q : R (A × B)) (r : R A) (s : R B) (m : Mark) (ts : Tokens) (o : Outcome (A × B)) → q ≡ (r then s) until m → by (r then (s until m)) ts ≡ o → by q ts ≡ o
unfolding by
until_last q r s m ts o f h = of_form q ((r then s) until m) ts o f (until_both (reads r ts) (reads s) (expect m) ∙ h)

pub before_first : {A B : Type 0} (q : R (A × B)) (m : Mark) (r : R A) (s : R B) (ts : Tokens) (o : Outcome (A × B)) → q ≡ (m before r) then s → by (m before (r then s)) ts ≡ o → by q ts ≡ o
unfolding by
before_first {A} {B} q m r s ts o f h = of_form q ((m before r) then s) ts o f (before_both {B = A × B} (expect m ts) (reads r) (λ a ts. and_then {B = A × B} (reads s ts) (λ b ts. Some ((a, b), ts))) ∙ h)
