-- The turns of a loop, beside the recursion on a count of turns.
use Rattle.std.proofs.Common.{◌≡◌, ℕ, suc, ◌+◌, ◌-◌, ◌<◌, ◌≤◌, Bool, true, false, if◌then◌else◌, List, [], ◌∷◌, ◌++◌, drop, Option, Some, None, refl, sym, ap, ◌∙◌, arith}
use Rattle.pl_grammar.specs.Marks.{Tokens, Mark, sees, after, among, begins, joined_by}
use Rattle.pl_grammar.specs.Parser.{Parser, and_then, joins, links_turn, links_from, many_turn, many_from}
use Rattle.pl_grammar.specs.Forms.{by}

pub one_turn : {X : Type 0} {x : X} (f : ℕ → X) (n at : ℕ) → at < n → x ≡ f (n - at) → x ≡ f (suc (n - (at + 1)))
one_turn f n at below e = let turn : n - at ≡ suc (n - (at + 1)) = omega arith in e ∙ ap f turn

pub no_turn : {X : Type 0} {x : X} (f : ℕ → X) (n at : ℕ) → n ≤ at → x ≡ f (n - at) → x ≡ f 0
no_turn f n at done e = let none : n - at ≡ 0 = omega arith in e ∙ ap f none

pub deeper : {X : Type 0} (f : ℕ → X) (n : ℕ) → 0 < n → f n ≡ f (suc (n - 1))
deeper f n some = let e : n ≡ suc (n - 1) = omega arith in ap f e

-- ---- which mark joins

pub joins_here : {O : Type 0} (m : Mark) (o : O) (es : List (Mark × O)) (ts : Tokens) → sees m ts ≡ true → Some o ≡ joins ((m, o) ∷ es) ts
unfolding sees joins
joins_here m o es [] h = absurd (cc)
joins_here m o es (t ∷ ts) h = ap (λ (b : Bool). if b then Some o else joined_by es t) (sym h)

pub joins_past : {O : Type 0} (m : Mark) (o : O) (es : List (Mark × O)) (ts : Tokens) (r : Option O) → sees m ts ≡ false → r ≡ joins es ts → r ≡ joins ((m, o) ∷ es) ts
unfolding sees joins
joins_past m o es [] r h e = e
joins_past m o es (t ∷ ts) r h e = e ∙ ap (λ (b : Bool). if b then Some o else joined_by es t) (sym h)

pub joins_none : {O : Type 0} (ts : Tokens) → ◌≡◌ {A = Option O} None (joins [] ts)
unfolding joins
joins_none [] = refl
joins_none (t ∷ ts) = refl

pub joins_by : (m : Mark) (ts : Tokens) → joins (by m) ts ≡ (if sees m ts then Some (tt {0}) else None)
unfolding sees joins
joins_by m [] = refl
joins_by m (t ∷ ts) = refl

module _ {A B : Type 0} (m : Mark) (item : Parser A) (make : Unit {0} → A → B) where
  pub link_ends : (n : ℕ) (found : List B) (ts : Tokens) → sees m ts ≡ false → links_from (by m) item make (suc n) found ts ≡ Some (found, after m ts)
  unfolding after
  link_ends n found ts e =
      ap (links_turn (by m) item make (links_from (by m) item make n) found ts) (joins_by m ts ∙ ap (λ b. if b then Some (tt {0}) else None) e)
      ∙ ap (λ (b : Bool). Some (found, (if b then drop 1 ts else ts))) (sym e)

  pub link_more : (n : ℕ) (found : List B) (ts : Tokens) → sees m ts ≡ true
      → links_from (by m) item make (suc n) found ts ≡ and_then (item (after m ts)) (λ a. links_from (by m) item make n (found ++ make tt a ∷ []))
  unfolding after
  link_more n found ts e =
      ap (links_turn (by m) item make (links_from (by m) item make n) found ts) (joins_by m ts ∙ ap (λ b. if b then Some (tt {0}) else None) e)
      ∙ ap (λ (b : Bool). and_then (item (if b then drop 1 ts else ts)) (λ a. links_from (by m) item make n (found ++ make tt a ∷ []))) (sym e)

-- ---- one of several marks

pub begins_here : (m : Mark) (ms : List Mark) (ts : Tokens) → sees m ts ≡ true → true ≡ begins (m ∷ ms) ts
unfolding sees begins
begins_here m ms [] h = absurd (cc)
begins_here m ms (t ∷ ts) h = ap (λ (b : Bool). if b then true else among ms t) (sym h)

pub begins_past : (m : Mark) (ms : List Mark) (ts : Tokens) (r : Bool) → sees m ts ≡ false → r ≡ begins ms ts → r ≡ begins (m ∷ ms) ts
unfolding sees begins
begins_past m ms [] r h e = e
begins_past m ms (t ∷ ts) r h e = e ∙ ap (λ (b : Bool). if b then true else among ms t) (sym h)

pub begins_none : (ts : Tokens) → false ≡ begins [] ts
unfolding begins
begins_none [] = refl
begins_none (t ∷ ts) = refl

module _ {A : Type 0} (ms : List Mark) (item : Parser A) where
  pub many_ends : (n : ℕ) (found : List A) (ts : Tokens) → begins ms ts ≡ false → many_from ms item (suc n) found ts ≡ Some (found, ts)
  many_ends n found ts e = ap (many_turn ms item (many_from ms item n) found ts) e

  pub many_more : (n : ℕ) (found : List A) (ts : Tokens) → begins ms ts ≡ true → many_from ms item (suc n) found ts ≡ and_then (item ts) (λ a. many_from ms item n (found ++ a ∷ []))
  many_more n found ts e = ap (many_turn ms item (many_from ms item n) found ts) e
