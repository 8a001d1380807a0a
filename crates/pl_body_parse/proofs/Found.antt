-- Pieces at the front of tokens.
use Rattle.std.proofs.Common.{◌≡◌, ◌∙◌, ap, sym, refl, subst, ℕ, zero, suc, ◌-◌, ◌<◌, ◌≤◌, Bool, true, false, List, [], ◌∷◌, ◌++◌, length, take, drop, Option, Some, None, length-append, arith}
use Rattle.std.proofs.lemmas.List.{map-append}
use Rattle.pl_lex.specs.declared.token.Token.{Token}
use Rattle.pl_tree.specs.declared.tree.Expr.{Expr}
use Rattle.pl_grammar.specs.Fit.{Ends}
use Rattle.pl_grammar.specs.Marks.{Tokens, kinds}
use Rattle.pl_grammar.specs.Parser.{Outcome}
use Rattle.pl_grammar.specs.Relations.{with_mark, without, made}
use Rattle.pl_grammar.specs.Rule.{SpelledBy, Within as Derived}
use Rattle.pl_body_grammar.specs.Grammar.{Part, Tree, BlockPiece, CasePiece, DeclarationPiece, rule}
use Rattle.pl_body_grammar.specs.FirstFollow.{reads_part, empty, follow_last}
use Rattle.pl_body_grammar.specs.declared.parts.Piece.{Piece}
use Rattle.pl_body_grammar.specs.declared.parts.Piece.TheVariants as piece
use Rattle.pl_body_grammar.proofs.Theorem.{lawful}
use Rattle.pl_body_parse.specs.Computed.{Taken, counted, reads_piece, piece_at, declared_at}
use Rattle.pl_body_parse.specs.Spells.{Is}

-- ---- pairs in options

pub pair_is : {A B : Type 0} (a b : A) (x y : B) → (let o : Option (A × B) = Some (a, x) in o ≡ Some (b, y)) → (a ≡ b) × (x ≡ y)
pair_is {A} {B} a b x y h =
    let first : Option (A × B) → A = λ o. elim o [ None ↦ a | Some p ↦ p.0 ] in
    let second : Option (A × B) → B = λ o. elim o [ None ↦ x | Some p ↦ p.1 ] in
    (ap first h, ap second h)

-- ---- lists of tokens

pub drop_front : {A : Type 0} (xs ys : List A) → drop (length xs) (xs ++ ys) ≡ ys
drop_front [] ys = refl
drop_front (x ∷ xs) ys = drop_front xs ys

pub take_front : {A : Type 0} (xs ys : List A) → take (length xs) (xs ++ ys) ≡ xs
take_front [] ys = refl
take_front (x ∷ xs) ys = ap (λ (zs : List _). x ∷ zs) (take_front xs ys)

kinds_append : (xs ys : List Token) → kinds (xs ++ ys) ≡ kinds xs ++ kinds ys
kinds_append xs ys = map-append (λ (t : Token). t.kind) xs ys

kinds_length : (ts : List Token) → length (kinds ts) ≡ length ts
kinds_length [] = refl
kinds_length (t ∷ ts) = ap suc (kinds_length ts)

record Split (ts : List Token) (front rest : Tokens) : Type 0 where
  pub first : List Token
  pub second : List Token
  pub is : ts ≡ first ++ second
  pub front_is : kinds first ≡ front
  pub rest_is : kinds second ≡ rest

split : (ts : List Token) (front rest : Tokens) → kinds ts ≡ front ++ rest → Split ts front rest
split ts [] rest h = record { first = []; second = ts; is = refl; front_is = refl; rest_is = h }
split [] (k ∷ front) rest h = absurd (cc)
split (t ∷ ts) (k ∷ front) rest h =
    let own : t.kind ≡ k = cc in
    let others : kinds ts ≡ front ++ rest = cc in
    let s = split ts front rest others in
    record {
      first = t ∷ s.first;
      second = s.second;
      is = ap (λ (us : List Token). t ∷ us) s.is;
      front_is = ap (λ (ks : Tokens). t.kind ∷ ks) s.front_is ∙ ap (λ k. k ∷ front) own;
      rest_is = s.rest_is;
    }

-- ---- what is read is there

pub record Found (p : Part) (x : Tree p) (ts : List Token) (more : ℕ) : Type 0 where
  pub front : List Token
  pub rest : List Token
  pub is : ts ≡ front ++ rest
  pub spells : Is p x front
  pub count : length front ≡ more
  pub some : 0 < more

not_empty : (p : Part) → empty p ≡ false → (x : Tree p) (front : Tokens) → SpelledBy rule p x front → 0 < length front
not_empty p own x [] h = let b : empty p ≡ true = (lawful p).begun x [] h in absurd (cc)
not_empty p own x (k ∷ front) h = omega arith

pub some_tokens : (p : Part) → empty p ≡ false → (x : Tree p) (ts : List Token) → Is p x ts → 0 < length ts
some_tokens p own x ts h = let n = not_empty p own x (kinds ts) h in let sizes = kinds_length ts in omega (arith, n, sizes)

found : (p : Part) → empty p ≡ false → (ts : List Token) (x : Tree p) (more : ℕ) → counted (length ts) (reads_part p (kinds ts)) ≡ Some (x, more) → Found p x ts more
found p own ts x more h = by_outcome (reads_part p (kinds ts)) refl h
  where
    by_outcome : (o : Outcome (Tree p)) → reads_part p (kinds ts) ≡ o → counted (length ts) o ≡ Some (x, more) → Found p x ts more
    by_outcome None e h = absurd (cc)
    by_outcome (Some (y, rest)) e h =
        let same = pair_is y x (length ts - length rest) more h in
        let f = (lawful p).sound (kinds ts) rest y e in
        let s = split ts f.0 rest f.1 in
        let all : length ts ≡ length (s.first ++ s.second) = ap length s.is in
        let both = length-append s.first s.second in
        let second : length s.second ≡ length rest = sym (kinds_length s.second) ∙ ap length s.rest_is in
        let first : length s.first ≡ length f.0 = sym (kinds_length s.first) ∙ ap length s.front_is in
        let count : length s.first ≡ more = omega (arith, all, both, second, same.1) in
        record {
          front = s.first;
          rest = s.second;
          is = s.is;
          spells = subst (λ (z : Tree p). Is p z s.first) same.0 (subst (λ (ks : Tokens). SpelledBy rule p y ks) (sym s.front_is) f.2);
          count = count;
          some = let n = not_empty p own y f.0 f.2 in omega (arith, n, first, count);
        }

-- ---- what is there is read

ends_any : (rest : Tokens) → Ends [] rest
ends_any [] = tt
ends_any (k ∷ rest) = refl

finds : (p : Part) → follow_last p ≡ [] → (x : Tree p) (front rest : List Token) → Is p x front → counted (length (front ++ rest)) (reads_part p (kinds (front ++ rest))) ≡ Some (x, length front)
finds p none x front rest h =
    let read = (lawful p).complete x (kinds front) (kinds rest) h (subst (λ ms. Ends ms (kinds rest)) (sym none) (ends_any (kinds rest))) in
    let both = length-append front rest in
    let sizes = kinds_length rest in
    let count : length (front ++ rest) - length (kinds rest) ≡ length front = omega (arith, both, sizes) in
    ap (λ (ks : Tokens). counted (length (front ++ rest)) (reads_part p ks)) (kinds_append front rest)
    ∙ ap (counted (length (front ++ rest))) read
    ∙ ap (λ (n : ℕ). let o : Taken (Tree p) = Some (x, n) in o) count

-- ---- pieces of a block and of CASE

abbrev pub not_handler : Piece → Bool
not_handler (piece.Handler cs) = false
not_handler _ = true

abbrev pub not_arm : Piece → Bool
not_arm (piece.Arm vs) = false
not_arm _ = true

to_case : (h : ℕ) (x : Piece) (ks : Tokens) → Derived rule h BlockPiece x ks → not_handler x ≡ true → Derived rule h CasePiece x ks
to_case zero x ks d n = absurd d
to_case (suc h) x ks (without d) n = without d
to_case (suc h) _ _ (with_mark m (made d)) n = absurd (cc)

to_block : (h : ℕ) (x : Piece) (ks : Tokens) → Derived rule h CasePiece x ks → not_arm x ≡ true → Derived rule h BlockPiece x ks
to_block zero x ks d n = absurd d
to_block (suc h) x ks (without d) n = without d
to_block (suc h) _ _ (with_mark m (made d)) n = absurd (cc)

-- a piece of a block, or an arm
pub data Known : Piece → List Token → Type 0 where
  in_block : {x : Piece} {ts : List Token} → Is BlockPiece x ts → Known x ts
  an_arm : {vs : List Expr} {ts : List Token} → Is CasePiece (piece.Arm vs) ts → Known (piece.Arm vs) ts

known : (x : Piece) (ts : List Token) → Is CasePiece x ts → Known x ts
known (piece.Arm vs) ts h = an_arm h
known x ts h = in_block (h.0, to_block h.0 x (kinds ts) h.1 refl)

pub record FoundPiece (x : Piece) (ts : List Token) (more : ℕ) : Type 0 where
  pub front : List Token
  pub rest : List Token
  pub is : ts ≡ front ++ rest
  pub spells : Known x front
  pub count : length front ≡ more
  pub some : 0 < more

pub found_piece : (in_case : Bool) (ts : List Token) (x : Piece) (more : ℕ) → piece_at in_case ts ≡ Some (x, more) → FoundPiece x ts more
unfolding piece_at reads_piece
found_piece true ts x more h = let f = found CasePiece refl ts x more h in record { front = f.front; rest = f.rest; is = f.is; spells = known x f.front f.spells; count = f.count; some = f.some }
found_piece false ts x more h = let f = found BlockPiece refl ts x more h in record { front = f.front; rest = f.rest; is = f.is; spells = in_block f.spells; count = f.count; some = f.some }

pub finds_in_block : (in_case : Bool) (x : Piece) (front rest : List Token) → Is BlockPiece x front → (in_case ≡ true → not_handler x ≡ true) → piece_at in_case (front ++ rest) ≡ Some (x, length front)
unfolding piece_at reads_piece
finds_in_block true x front rest h n = finds CasePiece refl x front rest (h.0, to_case h.0 x (kinds front) h.1 (n refl))
finds_in_block false x front rest h n = finds BlockPiece refl x front rest h

pub finds_arm : (x : Piece) (front rest : List Token) → Is CasePiece x front → piece_at true (front ++ rest) ≡ Some (x, length front)
unfolding piece_at reads_piece
finds_arm x front rest h = finds CasePiece refl x front rest h

pub finds_declared : (x : Piece) (front rest : List Token) → Is DeclarationPiece x front → declared_at (front ++ rest) ≡ Some (x, length front)
unfolding declared_at
finds_declared x front rest h = finds DeclarationPiece refl x front rest h

pub found_declared : (ts : List Token) (x : Piece) (more : ℕ) → declared_at ts ≡ Some (x, more) → Found DeclarationPiece x ts more
unfolding declared_at
found_declared ts x more h = found DeclarationPiece refl ts x more h

-- ---- how many tokens a piece takes

pub record Within (ts : List Token) (rest : Tokens) : Type 0 where
  pub fewer : length rest < length ts
  pub all : length (kinds ts) ≡ length ts

within : (p : Part) → empty p ≡ false → (ts : List Token) (x : Tree p) (rest : Tokens) → reads_part p (kinds ts) ≡ Some (x, rest) → Within ts rest
within p own ts x rest h =
    let f = found p own ts x (length ts - length rest) (ap (counted (length ts)) h) in
    let some = f.some in
    record { fewer = omega (arith, some); all = kinds_length ts }

pub piece_within : (in_case : Bool) (ts : List Token) (x : Piece) (rest : Tokens) → reads_piece in_case (kinds ts) ≡ Some (x, rest) → Within ts rest
unfolding reads_piece
piece_within true ts x rest h = within CasePiece refl ts x rest h
piece_within false ts x rest h = within BlockPiece refl ts x rest h

pub declared_within : (ts : List Token) (x : Piece) (rest : Tokens) → reads_part DeclarationPiece (kinds ts) ≡ Some (x, rest) → Within ts rest
declared_within ts x rest h = within DeclarationPiece refl ts x rest h

pub piece_counts : (in_case : Bool) (ts : List Token) (x : Piece) (rest : Tokens) (more : ℕ) → reads_piece in_case (kinds ts) ≡ Some (x, rest) → more ≡ length ts - length rest → piece_at in_case ts ≡ Some (x, more)
unfolding piece_at
piece_counts in_case ts x rest more h count = ap (counted (length ts)) h ∙ ap (λ (n : ℕ). let o : Taken Piece = Some (x, n) in o) (sym count)

pub piece_lacks : (in_case : Bool) (ts : List Token) → reads_piece in_case (kinds ts) ≡ None → piece_at in_case ts ≡ None
unfolding piece_at
piece_lacks in_case ts h = ap (counted (length ts)) h

pub declared_counts : (ts : List Token) (x : Piece) (rest : Tokens) (more : ℕ) → reads_part DeclarationPiece (kinds ts) ≡ Some (x, rest) → more ≡ length ts - length rest → declared_at ts ≡ Some (x, more)
unfolding declared_at
declared_counts ts x rest more h count = ap (counted (length ts)) h ∙ ap (λ (n : ℕ). let o : Taken Piece = Some (x, n) in o) (sym count)

pub declared_lacks : (ts : List Token) → reads_part DeclarationPiece (kinds ts) ≡ None → declared_at ts ≡ None
unfolding declared_at
declared_lacks ts h = ap (counted (length ts)) h

-- ---- what a reader leaves, as it counts tokens

pub record Counted (ts : List Token) (new : Tokens) (all left : ℕ) : Type 0 where
  pub is : all - left ≡ length ts - length new
  pub some : 0 < all - left
  pub low : left ≤ all

pub counts : (ts : List Token) (rest new : Tokens) (all left : ℕ) → rest ≡ kinds ts → all ≡ length rest → left ≡ length new → length new < length ts → Counted ts new all left
counts ts rest new all left is whole more fewer =
    let size : length rest ≡ length ts = ap length is ∙ kinds_length ts in
    record { is = omega (arith, size, whole, more); some = omega (arith, size, whole, more, fewer); low = omega (arith, size, whole, more, fewer) }

-- what is read where these tokens come next
pub piece_read : (in_case : Bool) (ts : List Token) (rest new : Tokens) (x y : Piece) (all left : ℕ) → rest ≡ kinds ts → all ≡ length rest → reads_piece in_case rest ≡ Some (x, new) → left ≡ length new → y ≡ x
    → (piece_at in_case ts ≡ Some (y, all - left)) × (0 < all - left) × (left ≤ all)
piece_read in_case ts rest new x y all left is whole read more same =
    let h : reads_piece in_case (kinds ts) ≡ Some (x, new) = ap (reads_piece in_case) (sym is) ∙ read in
    let k = counts ts rest new all left is whole more (piece_within in_case ts x new h).fewer in
    (piece_counts in_case ts x new (all - left) h k.is ∙ ap (λ (x : Piece). let o : Taken Piece = Some (x, all - left) in o) (sym same), k.some, k.low)

pub piece_unread : (in_case : Bool) (ts : List Token) (rest : Tokens) → rest ≡ kinds ts → reads_piece in_case rest ≡ None → piece_at in_case ts ≡ None
piece_unread in_case ts rest is none = piece_lacks in_case ts (ap (reads_piece in_case) (sym is) ∙ none)

pub declared_read : (ts : List Token) (rest new : Tokens) (x y : Piece) (all left : ℕ) → rest ≡ kinds ts → all ≡ length rest → reads_part DeclarationPiece rest ≡ Some (x, new) → left ≡ length new → y ≡ x
    → (declared_at ts ≡ Some (y, all - left)) × (0 < all - left) × (left ≤ all)
declared_read ts rest new x y all left is whole read more same =
    let h : reads_part DeclarationPiece (kinds ts) ≡ Some (x, new) = ap (reads_part DeclarationPiece) (sym is) ∙ read in
    let k = counts ts rest new all left is whole more (declared_within ts x new h).fewer in
    (declared_counts ts x new (all - left) h k.is ∙ ap (λ (x : Piece). let o : Taken Piece = Some (x, all - left) in o) (sym same), k.some, k.low)

pub declared_unread : (ts : List Token) (rest : Tokens) → rest ≡ kinds ts → reads_part DeclarationPiece rest ≡ None → declared_at ts ≡ None
declared_unread ts rest is none = declared_lacks ts (ap (reads_part DeclarationPiece) (sym is) ∙ none)
