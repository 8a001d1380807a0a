-- Which tokens spell a tree whose rule is made of smaller ones.
use Rattle.std.specs.Prelude.{◌≡◌, Bool, true, false, List, [], ◌∷◌, ◌++◌, Option, Some, None}
use Rattle.pl_lex.specs.declared.token.TokenKind.{TokenKind}
use Rattle.pl_grammar.specs.Marks.{Tokens, Mark, marked, Sort, Carried, carried, joined_by}

abbrev pub Rel : Type 0 → Type 1
Rel A = A → Tokens → Type 0

-- a token that carries it
pub data One (s : Sort) : Carried s → Tokens → Type 0 where
  carries : {a : Carried s} {t : TokenKind} → carried s t ≡ Some a → One s a (t ∷ [])

-- one and then the other
pub data Then {A B : Type 0} (R : Rel A) (S : Rel B) : A × B → Tokens → Type 0 where
  both : {a : A} {b : B} {xs ys : Tokens} → R a xs → S b ys → Then R S (a, b) (xs ++ ys)

-- behind a mark
pub data Before {A : Type 0} (m : Mark) (R : Rel A) : A → Tokens → Type 0 where
  behind_mark : {a : A} {t : TokenKind} {xs : Tokens} → marked m t ≡ true → R a xs → Before m R a (t ∷ xs)

-- before a mark
pub data Until {A : Type 0} (R : Rel A) (m : Mark) : A → Tokens → Type 0 where
  before_mark : {a : A} (t : TokenKind) {xs : Tokens} → R a xs → marked m t ≡ true → Until R m a (xs ++ t ∷ [])

-- made of what they spell
pub data Made {A B : Type 0} (f : A → B) (R : Rel A) : B → Tokens → Type 0 where
  made : {a : A} {xs : Tokens} → R a xs → Made f R (f a) xs

-- made of what they spell, where it can be made
pub data Checked {A B : Type 0} (f : A → Option B) (R : Rel A) : B → Tokens → Type 0 where
  checked : {a : A} {b : B} {xs : Tokens} → R a xs → f a ≡ Some b → Checked f R b xs

-- no token
pub data Empty {A : Type 0} (a : A) : A → Tokens → Type 0 where
  empty : Empty a a []

-- the mark may be there
pub data Maybe (m : Mark) : Bool → Tokens → Type 0 where
  there : {t : TokenKind} → marked m t ≡ true → Maybe m true (t ∷ [])
  absent : Maybe m false []

-- the first behind the mark, or the second without it
pub data Fork {A : Type 0} (m : Mark) (R S : Rel A) : A → Tokens → Type 0 where
  with_mark : {a : A} {t : TokenKind} {xs : Tokens} → marked m t ≡ true → R a xs → Fork m R S a (t ∷ xs)
  without : {a : A} {xs : Tokens} → S a xs → Fork m R S a xs

-- one or the other
pub data Either {A : Type 0} (R S : Rel A) : A → Tokens → Type 0 where
  first : {a : A} {xs : Tokens} → R a xs → Either R S a xs
  second : {a : A} {xs : Tokens} → S a xs → Either R S a xs

-- the first, or the second where what it spells fails the test
pub data Prefer {A : Type 0} (test : Tokens → Bool) (R S : Rel A) : A → Tokens → Type 0 where
  preferred : {a : A} {xs : Tokens} → R a xs → Prefer test R S a xs
  otherwise : {a : A} {xs : Tokens} → test xs ≡ false → S a xs → Prefer test R S a xs

-- any number of times a mark of the table and an item
pub data Links {O A B : Type 0} (table : List (Mark × O)) (Item : Rel A) (make : O → A → B) : List B → Tokens → Type 0 where
  no_link : Links table Item make [] []
  joined : {o : O} {t : TokenKind} {a : A} {xs : Tokens} {bs : List B} {ys : Tokens} → joined_by table t ≡ Some o → Item a xs → Links table Item make bs ys
      → Links table Item make (make o a ∷ bs) (t ∷ (xs ++ ys))

-- at most once a mark of the table and an item
pub data Link {O A B : Type 0} (table : List (Mark × O)) (Item : Rel A) (make : O → A → B) : Option B → Tokens → Type 0 where
  unlinked : Link table Item make None []
  linked : {o : O} {t : TokenKind} {a : A} {xs : Tokens} → joined_by table t ≡ Some o → Item a xs → Link table Item make (Some (make o a)) (t ∷ xs)

-- any number of times
pub data Many {A : Type 0} (Item : Rel A) : List A → Tokens → Type 0 where
  no_more : Many Item [] []
  one_more : {a : A} {xs : Tokens} {bs : List A} {ys : Tokens} → Item a xs → Many Item bs ys → Many Item (a ∷ bs) (xs ++ ys)
