-- Parsers as functions on lists of tokens.
use Rattle.std.specs.Prelude.{◌≡◌, ℕ, zero, suc, Bool, true, false, if◌then◌else◌, List, [], ◌∷◌, ◌++◌, length, drop, Option, Some, None, Result, Ok, Err}
use Rattle.pl_lex.specs.declared.token.TokenKind.{TokenKind}
use Rattle.pl_grammar.specs.Marks.{Tokens, Mark, Sort, Carried, carried, sees, after, begins, joined_by}
use denote.Ref.{MutBor}
use Rattle.pl_grammar.specs.declared.fail.Fail.{Fail}
use Rattle.pl_grammar.specs.declared.fail.Fail.TheVariants.{Syntax}

-- what is read, and the tokens behind it
abbrev pub Outcome : Type 0 → Type 0
Outcome A = Option (A × Tokens)

abbrev pub Parser : Type 0 → Type 0
Parser A = Tokens → Outcome A

abbrev pub and_then : {A B : Type 0} → Outcome A → (A → Parser B) → Outcome B
and_then (Some p) f = f p.0 p.1
and_then None f = None

abbrev pub pure : {A : Type 0} → A → Parser A
pure a = λ ts. Some (a, ts)

abbrev pub with_rest : {A : Type 0} → Option A → Tokens → Outcome A
with_rest None ts = None
with_rest (Some a) ts = Some (a, ts)

-- ---- one token

abbrev pub head : Tokens → Option TokenKind
head [] = None
head (t ∷ ts) = Some t

-- takes the mark, if it comes next, and tells whether it did
abbrev pub eat : Mark → Parser Bool
eat m = λ ts. Some (sees m ts, after m ts)

unfoldable pub expect : Mark → Parser (Unit {0})
expect m = λ ts. if sees m ts then Some (tt, drop 1 ts) else None

-- takes a token of the sort
unfoldable pub take : (s : Sort) → Parser (Carried s)
take s [] = None
take s (t ∷ ts) = with_rest (carried s t) ts

-- ---- chains. Each turn takes a token, so their count is enough.

unfoldable pub joins : {O : Type 0} → List (Mark × O) → Tokens → Option O
joins table [] = None
joins table (t ∷ ts) = joined_by table t

module _ {O A B : Type 0} (table : List (Mark × O)) (item : Parser A) (make : O → A → B) where
  abbrev pub links_turn : (List B → Parser (List B)) → List B → Tokens → Option O → Outcome (List B)
  links_turn more found ts None = Some (found, ts)
  links_turn more found ts (Some o) = and_then (item (drop 1 ts)) (λ a. more (found ++ make o a ∷ []))

  -- any number of times a mark of the table and an item
  abbrev pub links_from : ℕ → List B → Parser (List B)
  links_from zero found ts = Some (found, ts)
  links_from (suc n) found ts = links_turn (links_from n) found ts (joins table ts)

  abbrev pub link_at : Option O → Parser (Option B)
  link_at None = pure None
  link_at (Some o) = λ ts. and_then (item (drop 1 ts)) (λ a. pure (Some (make o a)))

-- one and then the other
abbrev pub both : {A B : Type 0} → Parser A → Parser B → Parser (A × B)
both p q = λ ts. and_then (p ts) (λ a ts. and_then (q ts) (λ b ts. Some ((a, b), ts)))

-- an item, and any number of times the mark and an item
abbrev pub listed : {A : Type 0} → Mark → Parser A → Parser (List A)
listed {A} m item ts =
    and_then (both item (λ ts. links_from {O = Unit {0}} ((m, tt) ∷ []) item (λ o a. a) (length ts) [] ts) ts) (λ p ts. Some (p.0 ∷ p.1, ts))

module _ {A : Type 0} (marks : List Mark) (item : Parser A) where
  abbrev pub many_turn : (List A → Parser (List A)) → List A → Tokens → Bool → Outcome (List A)
  many_turn more found ts false = Some (found, ts)
  many_turn more found ts true = and_then (item ts) (λ a. more (found ++ a ∷ []))

  -- any number of times an item, which begins with one of the marks
  abbrev pub many_from : ℕ → List A → Parser (List A)
  many_from zero found ts = Some (found, ts)
  many_from (suc n) found ts = many_turn (many_from n) found ts (begins marks ts)

-- what a function that parses ensures, unless memory runs out
abbrev pub Reads : {A : Type 0} → Outcome A → Result A Fail → Tokens → Type 0
Reads outcome (Ok a) new = outcome ≡ Some (a, new)
Reads outcome (Err e) new = e ≡ Syntax → outcome ≡ None

-- what a function ensures that reads all the tokens or refuses them, unless memory runs out
abbrev pub ReadsAll : {A : Type 0} → Outcome A → Result A Fail → Type 0
ReadsAll outcome (Ok a) = outcome ≡ Some (a, [])
ReadsAll {A} outcome (Err e) = e ≡ Syntax → (a : A) → outcome ≡ Some (a, []) → ⊥

-- a function value that parses may be called
abbrev pub Callable : (MutBor Tokens → Type 0) → Type 0
Callable pre = (at : MutBor Tokens) → pre at

-- what is known of its calls makes it a function that reads so
pub record ReadBy {A : Type 0} (parser : Parser A) (post : MutBor Tokens → Result A Fail → MutBor Tokens → Type 0) : Type 0 where
  pub reads : (old new : MutBor Tokens) (r : Result A Fail) → post old r new → Reads (parser old.now) r new.now

-- what a function ensures that makes something of what was read, or refuses it
abbrev pub Makes : {A : Type 0} → Option A → Result A Fail → Type 0
Makes made (Ok a) = made ≡ Some a
Makes made (Err e) = e ≡ Syntax → made ≡ None
