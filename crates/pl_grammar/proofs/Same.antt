-- How a part is read depends on the parts of lower rank only, so that it can be read by its own rule.
use Rattle.std.proofs.Common.{◌≡◌, ℕ, zero, suc, ◌<◌, Bool, true, false, ◌&&◌, if◌then◌else◌, List, [], length, refl, ap, ap₂, arith, ltb-true, Option, Some}
use Rattle.pl_grammar.specs.Marks.{Tokens, sees, after, begins}
use Rattle.pl_grammar.specs.Parser.{Parser, and_then, with_rest, expect, joins, links_from, link_at, many_from}
use Rattle.pl_grammar.specs.Rule.{Rule, part, inside, given, one, nothing, maybe, ◌before◌, ◌until◌, ◌then◌, make, check, fork, ◌or◌, ahead, prefer, links, link, many, FirstFollow, starts, read, read_below, read_inside, read_part}
use Rattle.pl_grammar.specs.Fit.{ranked}

split_and : (a b : Bool) → (a && b) ≡ true → (a ≡ true) × (b ≡ true)
split_and true b h = (refl, h)
split_and false b h = absurd (cc)

module _ {Part : Type 0} {Tree : Part → Type 0} (e : FirstFollow Part) (inner here here' : (p : Part) → Parser (Tree p)) where
  pub read_same : (k : ℕ) → ((p : Part) → e.rank p < k → here p ≡ here' p) → {A : Type 0} (r : Rule Tree A) → ranked e.rank k r ≡ true → read e inner here r ≡ read e inner here' r
  read_same k same (part p) h = same p (ltb-true (e.rank p) k h)
  read_same k same (inside p) h = refl
  read_same k same (given g) h = refl
  read_same k same (one s) h = refl
  read_same k same (nothing a) h = refl
  read_same k same (maybe m) h = refl
  read_same k same (◌before◌ {A = A} m r) h = ap {B = Parser A} (λ (p : Parser A) ts. and_then (expect m ts) (λ _ ts. p ts)) (read_same k same r h)
  read_same k same (◌until◌ {A = A} r m) h = ap {B = Parser A} (λ (p : Parser A) ts. and_then (p ts) (λ a ts. and_then (expect m ts) (λ _ ts. Some (a, ts)))) (read_same k same r h)
  read_same k same (◌then◌ {A = A} {B = B} r s) h =
      let two = split_and (ranked e.rank k r) (ranked e.rank k s) h in
      ap₂ {C = Parser (A × B)} (λ (p : Parser A) (q : Parser B) ts. and_then (p ts) (λ a ts. and_then (q ts) (λ b ts. Some ((a, b), ts)))) (read_same k same r two.0) (read_same k same s two.1)
  read_same k same (make {A = A} {B = B} f r) h = ap {B = Parser B} (λ (p : Parser A) ts. and_then (p ts) (λ a ts. Some (f a, ts))) (read_same k same r h)
  read_same k same (check {A = A} {B = B} f r) h = ap {B = Parser B} (λ (p : Parser A) ts. and_then (p ts) (λ a ts. with_rest (f a) ts)) (read_same k same r h)
  read_same k same (fork {A = A} m r s) h =
      let two = split_and (ranked e.rank k r) (ranked e.rank k s) h in
      ap₂ {C = Parser A} (λ (p q : Parser A) ts. (if sees m ts then p else q) (after m ts)) (read_same k same r two.0) (read_same k same s two.1)
  read_same k same (◌or◌ {A = A} r s) h =
      let two = split_and (ranked e.rank k r) (ranked e.rank k s) h in
      ap₂ {C = Parser A} (λ (p q : Parser A) ts. (if begins (starts e r) ts then p else q) ts) (read_same k same r two.0) (read_same k same s two.1)
  read_same k same (ahead {A = A} test marks r s) h =
      let two = split_and (ranked e.rank k r) (ranked e.rank k s) h in
      ap₂ {C = Parser A} (λ (p q : Parser A) ts. (if test ts then p else q) ts) (read_same k same r two.0) (read_same k same s two.1)
  read_same k same (prefer {A = A} test marks r s) h =
      let two = split_and (ranked e.rank k r) (ranked e.rank k s) h in
      ap₂ {C = Parser A} (λ (p q : Parser A) ts. (if test ts then p else q) ts) (read_same k same r two.0) (read_same k same s two.1)
  read_same k same (links {A = A} {B = B} table r f) h = ap {B = Parser (List B)} (λ (p : Parser A) ts. links_from table p f (length ts) [] ts) (read_same k same r h)
  read_same k same (link {A = A} {B = B} table r f) h = ap {B = Parser (Option B)} (λ (p : Parser A) ts. link_at table p f (joins table ts) ts) (read_same k same r h)
  read_same k same (many {A = A} r) h = ap {B = Parser (List A)} (λ (p : Parser A) ts. many_from (starts e r) p (length ts) [] ts) (read_same k same r h)

module _ {Part : Type 0} {Tree : Part → Type 0} (rule : (p : Part) → Rule Tree (Tree p)) (e : FirstFollow Part) where
  pub inside_is : (d : ℕ) (p : Part) (ts : Tokens) → read_inside rule e (suc d) p ts ≡ read_part rule e d p ts
  unfolding read_inside read_part
  inside_is d p ts = refl

  module _ (fit : (p : Part) → ranked e.rank (e.rank p) (rule p) ≡ true) where
    -- above its rank it makes no difference
    below_both : (inner : (p : Part) → Parser (Tree p)) (k l : ℕ) (p : Part) → e.rank p < k → e.rank p < l → read_below rule e inner k p ≡ read_below rule e inner l p
    below_both inner zero l p low low' = absurd (omega arith)
    below_both inner (suc k) zero p low low' = absurd (omega arith)
    below_both inner (suc k) (suc l) p low low' =
        read_same e inner (read_below rule e inner k) (read_below rule e inner l) (e.rank p) (λ q less. below_both inner k l q (omega arith) (omega arith)) (rule p) (fit p)

    pub below_same : (inner : (p : Part) → Parser (Tree p)) (k : ℕ) (p : Part) → e.rank p < k → read_below rule e inner k p ≡ read_below rule e inner (suc (e.rank p)) p
    below_same inner k p low = below_both inner k (suc (e.rank p)) p low (omega arith)

    pub reads_is : (d : ℕ) (p : Part) (ts : Tokens) → read_part rule e d p ts ≡ read e (read_inside rule e d) (read_part rule e d) (rule p) ts
    unfolding read_part
    reads_is d p ts =
        let inner : (p : Part) → Parser (Tree p) = read_inside rule e d in
        ap (λ (q : Parser (Tree p)). q ts) (read_same e inner (read_below rule e inner (e.rank p)) (read_part rule e d) (e.rank p) (λ q less. below_same inner (e.rank p) q less) (rule p) (fit p))
