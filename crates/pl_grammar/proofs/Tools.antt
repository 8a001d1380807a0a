-- Laws of parsers on lists.
use Rattle.std.proofs.Common.{◌≡◌, Bool, true, false, if◌then◌else◌, [], ◌∷◌, ◌++◌, drop, Option, Some, None, refl, sym, ap, ◌∙◌}
use Rattle.pl_lex.specs.declared.token.TokenKind.{TokenKind}
use Rattle.pl_grammar.specs.Marks.{Tokens, Mark, marked, sees, after}
use Rattle.pl_grammar.specs.Parser.{Outcome, Parser, and_then, pure, with_rest, expect}
use Rattle.pl_grammar.specs.Relations.{Rel}

-- this is what is read, and what is left
abbrev pub Gives : {A : Type 0} → Outcome A → A → Tokens → Type 0
Gives o a rest = o ≡ Some (a, rest)

-- the tokens that were read, and what they spell
pub record Front {A : Type 0} (R : Rel A) (ts : Tokens) (a : A) (rest : Tokens) : Type 0 where
  pub front : Tokens
  pub is : ts ≡ front ++ rest
  pub spells : R a front

-- what is read is spelled so
abbrev pub Sound : {A : Type 0} → Parser A → Rel A → Type 0
Sound {A} p R = (ts : Tokens) (a : A) (rest : Tokens) → Gives (p ts) a rest → Front R ts a rest

pub bind_some : {A B : Type 0} (o : Outcome A) (f : A → Parser B) (y : B) (rest : Tokens) → Gives (and_then o f) y rest → (a : A) × (mid : Tokens) × Gives o a mid × Gives (f a mid) y rest
bind_some None f y rest h = absurd (cc)
bind_some (Some p) f y rest h = (p.0, p.1, refl, h)

pub bind_gives : {A B : Type 0} (o : Outcome A) (f : A → Parser B) (a : A) (mid : Tokens) (y : B) (rest : Tokens) → Gives o a mid → Gives (f a mid) y rest → Gives (and_then o f) y rest
bind_gives o f a mid y rest h k = ap (λ (o : Outcome _). and_then o f) h ∙ k

pub same_pair : {A : Type 0} (a b : A) (x y : Tokens) → Gives (pure a x) b y → (a ≡ b) × (x ≡ y)
same_pair {A} a b x y h =
    let first : Outcome A → A = λ o. elim o [ None ↦ a | Some p ↦ p.0 ] in
    let second : Outcome A → Tokens = λ o. elim o [ None ↦ x | Some p ↦ p.1 ] in
    (ap first h, ap second h)

pub rest_some : {A : Type 0} (o : Option A) (a : A) (ts rest : Tokens) → Gives (with_rest o ts) a rest → (o ≡ Some a) × (ts ≡ rest)
rest_some None a ts rest h = absurd (cc)
rest_some (Some x) a ts rest h = let e = same_pair x a ts rest h in (ap Some e.0, e.1)

-- ---- marks

pub expect_gives : (m : Mark) (t : TokenKind) (ts : Tokens) → marked m t ≡ true → Gives (expect m (t ∷ ts)) tt ts
unfolding expect sees
expect_gives m t ts h = ap (λ b. if b then Some (tt, ts) else None) h

-- the mark, and what follows it
pub record Marked (m : Mark) (ts : Tokens) (rest : Tokens) : Type 0 where
  pub token : TokenKind
  pub is : ts ≡ token ∷ rest
  pub marked : marked m token ≡ true

expect_cases : (m : Mark) (t : TokenKind) (ts : Tokens) (b : Bool) (u : Unit {0}) (rest : Tokens) → marked m t ≡ b → Gives (if b then Some (tt, ts) else None) u rest → Marked m (t ∷ ts) rest
expect_cases m t ts true u rest e h = record { token = t; is = ap (λ (r : Tokens). t ∷ r) (same_pair tt u ts rest h).1; marked = e }
expect_cases m t ts false u rest e h = absurd (cc)

pub expected : (m : Mark) (ts : Tokens) (u : Unit {0}) (rest : Tokens) → Gives (expect m ts) u rest → Marked m ts rest
unfolding expect sees
expected m [] u rest h = absurd (cc)
expected m (t ∷ ts) u rest h = expect_cases m t ts (marked m t) u rest refl h

pub after_mark : (m : Mark) (t : TokenKind) (ts : Tokens) → marked m t ≡ true → (sees m (t ∷ ts) ≡ true) × (after m (t ∷ ts) ≡ ts)
unfolding after sees
after_mark m t ts h = (h, ap (λ b. if b then ts else t ∷ ts) h)

pub after_true : (m : Mark) (ts : Tokens) → sees m ts ≡ true → Marked m ts (after m ts)
unfolding after sees
after_true m [] h = absurd (cc)
after_true m (t ∷ ts) h = record { token = t; is = ap (λ b. t ∷ (if b then ts else t ∷ ts)) (sym h); marked = h }

pub after_false : (m : Mark) (ts : Tokens) → sees m ts ≡ false → after m ts ≡ ts
unfolding after
after_false m ts h = ap (λ b. if b then drop 1 ts else ts) h
