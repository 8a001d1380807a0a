-- A grammar in which no part stands inside another is read alike at every depth.
use Rattle.std.proofs.Common.{◌≡◌, ℕ, zero, suc, Bool, true, false, ◌&&◌, if◌then◌else◌, List, [], length, refl, ap, ap₂, ◌∙◌, Option, Some}
use Rattle.pl_grammar.specs.Marks.{Tokens, sees, after, begins}
use Rattle.pl_grammar.specs.Parser.{Parser, and_then, with_rest, expect, joins, links_from, link_at, many_from}
use Rattle.pl_grammar.specs.Rule.{Rule, part, inside, given, one, nothing, maybe, ◌before◌, ◌until◌, ◌then◌, make, check, fork, ◌or◌, ahead, prefer, links, link, many, FirstFollow, starts, read, read_below, read_inside, read_part}
use Rattle.pl_grammar.proofs.Plain.{split}
use Rattle.pl_grammar.proofs.Same.{inside_is}

module _ {Part : Type 0} {Tree : Part → Type 0} where
  -- it names no part inside
  abbrev pub flat : {A : Type 0} → Rule Tree A → Bool
  flat (part p) = true
  flat (inside p) = false
  flat (given g) = true
  flat (one s) = true
  flat (nothing a) = true
  flat (maybe m) = true
  flat (◌before◌ m r) = flat r
  flat (◌until◌ r m) = flat r
  flat (◌then◌ r s) = flat r && flat s
  flat (make f r) = flat r
  flat (check f r) = flat r
  flat (fork m r s) = flat r && flat s
  flat (◌or◌ r s) = flat r && flat s
  flat (ahead test marks r s) = flat r && flat s
  flat (prefer test marks r s) = flat r && flat s
  flat (links table r f) = flat r
  flat (link table r f) = flat r
  flat (many r) = flat r

module _ {Part : Type 0} {Tree : Part → Type 0} (e : FirstFollow Part) (inner inner' here here' : (p : Part) → Parser (Tree p)) (same : (p : Part) → here p ≡ here' p) where
  flat_same : {A : Type 0} (r : Rule Tree A) → flat r ≡ true → read e inner here r ≡ read e inner' here' r
  flat_same (part p) h = same p
  flat_same (inside p) h = absurd (cc)
  flat_same (given g) h = refl
  flat_same (one s) h = refl
  flat_same (nothing a) h = refl
  flat_same (maybe m) h = refl
  flat_same (◌before◌ {A = A} m r) h = ap {B = Parser A} (λ (p : Parser A) ts. and_then (expect m ts) (λ _ ts. p ts)) (flat_same r h)
  flat_same (◌until◌ {A = A} r m) h = ap {B = Parser A} (λ (p : Parser A) ts. and_then (p ts) (λ a ts. and_then (expect m ts) (λ _ ts. Some (a, ts)))) (flat_same r h)
  flat_same (◌then◌ {A = A} {B = B} r s) h =
      let two = split (flat r) (flat s) h in
      ap₂ {C = Parser (A × B)} (λ (p : Parser A) (q : Parser B) ts. and_then (p ts) (λ a ts. and_then (q ts) (λ b ts. Some ((a, b), ts)))) (flat_same r two.0) (flat_same s two.1)
  flat_same (make {A = A} {B = B} f r) h = ap {B = Parser B} (λ (p : Parser A) ts. and_then (p ts) (λ a ts. Some (f a, ts))) (flat_same r h)
  flat_same (check {A = A} {B = B} f r) h = ap {B = Parser B} (λ (p : Parser A) ts. and_then (p ts) (λ a ts. with_rest (f a) ts)) (flat_same r h)
  flat_same (fork {A = A} m r s) h =
      let two = split (flat r) (flat s) h in
      ap₂ {C = Parser A} (λ (p q : Parser A) ts. (if sees m ts then p else q) (after m ts)) (flat_same r two.0) (flat_same s two.1)
  flat_same (◌or◌ {A = A} r s) h =
      let two = split (flat r) (flat s) h in
      ap₂ {C = Parser A} (λ (p q : Parser A) ts. (if begins (starts e r) ts then p else q) ts) (flat_same r two.0) (flat_same s two.1)
  flat_same (ahead {A = A} test marks r s) h =
      let two = split (flat r) (flat s) h in
      ap₂ {C = Parser A} (λ (p q : Parser A) ts. (if test ts then p else q) ts) (flat_same r two.0) (flat_same s two.1)
  flat_same (prefer {A = A} test marks r s) h =
      let two = split (flat r) (flat s) h in
      ap₂ {C = Parser A} (λ (p q : Parser A) ts. (if test ts then p else q) ts) (flat_same r two.0) (flat_same s two.1)
  flat_same (links {A = A} {B = B} table r f) h = ap {B = Parser (List B)} (λ (p : Parser A) ts. links_from table p f (length ts) [] ts) (flat_same r h)
  flat_same (link {A = A} {B = B} table r f) h = ap {B = Parser (Option B)} (λ (p : Parser A) ts. link_at table p f (joins table ts) ts) (flat_same r h)
  flat_same (many {A = A} r) h = ap {B = Parser (List A)} (λ (p : Parser A) ts. many_from (starts e r) p (length ts) [] ts) (flat_same r h)

module _ {Part : Type 0} {Tree : Part → Type 0} (rule : (p : Part) → Rule Tree (Tree p)) (e : FirstFollow Part) (all_flat : (p : Part) → flat (rule p) ≡ true) where
  below_flat : (inner inner' : (p : Part) → Parser (Tree p)) (k : ℕ) (p : Part) → read_below rule e inner k p ≡ read_below rule e inner' k p
  below_flat inner inner' zero p = refl
  below_flat inner inner' (suc k) p = flat_same e inner inner' (read_below rule e inner k) (read_below rule e inner' k) (below_flat inner inner' k) (rule p) (all_flat p)

  pub any_depth : (d : ℕ) (p : Part) (ts : Tokens) → read_inside rule e (suc d) p ts ≡ read_part rule e 0 p ts
  unfolding read_part
  any_depth d p ts =
      let inner : (p : Part) → Parser (Tree p) = read_inside rule e d in
      let none : (p : Part) → Parser (Tree p) = read_inside rule e 0 in
      inside_is rule e d p ts ∙ ap (λ (q : Parser (Tree p)). q ts) (below_flat inner none (suc (e.rank p)) p)
