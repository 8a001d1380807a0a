-- A slice of a text from the first byte of a token to the last byte of a later one has the same tokens.
use Rattle.std.proofs.Common.{◌≡◌, ℕ, ◌+◌, ◌-◌, ◌≤◌, Bool, true, false, cond, List, [], ◌∷◌, ◌++◌, length, take, drop, map, Option, Some, None, Ok, refl, sym, ap, subst, ◌∙◌, arith, length-append, append_assoc, append-nil}
use Rattle.std.proofs.lemmas.List.{drop-drop}
use Rattle.std.proofs.Math.Seq.{take-append_seam, drop-append_seam}
use Rattle.pl_lex.specs.Characters.{Text}
use Rattle.pl_lex.specs.Rows as row
use Rattle.pl_lex.specs.Rows.{Row}
use Rattle.pl_lex.specs.Scan.{scan}
use Rattle.pl_lex.specs.Slices.{end_of, slice_of, moved, by_themselves}
use Rattle.pl_base.specs.declared.state.State.{State}
use Rattle.pl_lex.specs.declared.token.LexemeKind.{LexemeKind}
use Rattle.pl_lex.specs.declared.token.LexemeKind.TheVariants as what
use Rattle.pl_lex.specs.declared.token.Token.{Token}
use Rattle.pl_lex.specs.declared.token.TokenKind.{TokenKind}
use Rattle.pl_lex.specs.declared.token.Bad.{Bad}
use Rattle.pl_lex.specs.declared.token.Piece.{Piece}
use Rattle.pl_lex.specs.Lexemes.{Longest, Lexeme, Stand, with_token, or_bad, tokens_of, first_bad, Lexemes, is_semicolon, all_skipped, before_semicolon, command_end, outcome_by, piece_of, IsNext}
use Rattle.pl_lex.proofs.Endless.{reached, before_points, two_points, BetweenPoints}
use Rattle.pl_lex.proofs.Whole.{some_front, cut_of, IsFirst, is_first}

-- ---- a lexeme before the end of a slice

abbrev is_bad : LexemeKind → Bool
is_bad (what.Bad s) = true
is_bad (what.Read k) = false
is_bad what.Skipped = false

no_bad : {w : LexemeKind} {s : State} {A : Type 0} → w ≡ what.Bad s → is_bad w ≡ false → A
no_bad k good =
    let both : true ≡ false = sym (ap (λ x. is_bad x) k) ∙ good in
    absurd (cc both)

-- what isn't bad stands there whatever follows
any_rest : {w : LexemeKind} {front rest : Text} (other : Text) → is_bad w ≡ false → Row w front rest → Row w front other
any_rest other good (row.blank b h e k) = row.blank b h e k
any_rest other good (row.line_comment line h e k) = row.line_comment line h e k
any_rest other good (row.comment text h e k) = row.comment text h e k
any_rest other good (row.keyword word h l is k) = row.keyword word h l is k
any_rest other good (row.word h l none k) = row.word h l none k
any_rest other good (row.quoted_name name h l e k) = row.quoted_name name h l e k
any_rest other good (row.number_token h l k) = row.number_token h l k
any_rest other good (row.text_token text e k) = row.text_token text e k
any_rest other good (row.escape_text c ps h all refused e k) = row.escape_text c ps h all refused e k
any_rest other good (row.dollar_text tag text h l e k) = row.dollar_text tag text h l e k
any_rest other good (row.parameter digits h l g e k) = row.parameter digits h l g e k
any_rest other good (row.sign_token s e k) = row.sign_token s e k
any_rest other good (row.other_not_equal e k) = row.other_not_equal e k
any_rest other good (row.endless_text text e n k) = no_bad k good
any_rest other good (row.endless_name name e n k) = no_bad k good
any_rest other good (row.endless_escape_text c ps last h all l e n k) = no_bad k good
any_rest other good (row.endless_dollar tag text h l e n k) = no_bad k good
any_rest other good (row.endless_comment text o h e n k) = no_bad k good
any_rest other good (row.long_word h l k) = no_bad k good
any_rest other good (row.long_name name l e k) = no_bad k good
any_rest other good (row.empty_name e k) = no_bad k good
any_rest other good (row.refused_escape c ps h all bad e k) = no_bad k good
any_rest other good (row.spoiled_number digits spoiler h l e k) = no_bad k good
any_rest other good (row.point_number digits m h l other_point e k) = no_bad k good
any_rest other good (row.point_first digits h e k) = no_bad k good
any_rest other good (row.great_number h l k) = no_bad k good
any_rest other good (row.bad_parameter digits h l e k) = no_bad k good
any_rest other good (row.stray b h e k) = no_bad k good

-- the slice ends between two points
abbrev SplitsPoints : Text → Text → Type 0
SplitsPoints rest more = (after : Text) → rest ≡ 46 ∷ [] → more ≡ 46 ∷ after → ⊥

module _ {w : LexemeKind} (front rest more : Text) (l : Longest w front (rest ++ more)) where
  first_is : IsFirst w front (rest ++ more)
  first_is = is_first l (cut_of (front ++ (rest ++ more)) (omega (arith, some_front l.stands, length-append front (rest ++ more))))

  same_text : (other after : Text) → other ++ after ≡ front ++ rest → other ++ (after ++ more) ≡ front ++ (rest ++ more)
  same_text other after e = sym (append_assoc other after more) ∙ ap (λ (t : Text). t ++ more) e ∙ append_assoc front rest more

  -- a number before two points is the whole front
  no_points : SplitsPoints rest more → (other after : Text) → other ++ after ≡ front ++ rest → BetweenPoints other after more → ⊥
  no_points apart other after e b =
      let plain : front ++ rest ≡ b.digits ++ 46 ∷ [] = sym e ∙ ap (λ (t : Text). other ++ t) b.rest_is ∙ append-nil other ∙ b.front_is in
      let whole : front ++ (rest ++ more) ≡ b.digits ++ (46 ∷ 46 ∷ b.after) = sym (append_assoc front rest more) ∙ ap (λ (t : Text). t ++ more) plain ∙ append_assoc b.digits (46 ∷ []) more ∙ ap (λ (t : Text). b.digits ++ 46 ∷ t) b.more_is in
      let n : length front ≡ length b.digits = first_is.len ∙ ap (λ (t : Text). (scan t).1) whole ∙ before_points b.digits b.after b.number in
      let point : rest ≡ 46 ∷ [] = sym (drop-append_seam front rest) ∙ ap (λ (t : Text). drop (length front) t) plain ∙ ap (λ (k : ℕ). drop k (b.digits ++ 46 ∷ [])) n ∙ drop-append_seam b.digits (46 ∷ []) in
      apart b.after point b.more_is

  longest_before : is_bad w ≡ false → SplitsPoints rest more → Longest w front rest
  longest_before good apart = record {
    stands = any_rest rest good l.stands;
    longest = λ other longer after e r.
        let n : length longer ≤ (scan (longer ++ (after ++ more))).1 = reached more r (no_points apart longer after e) in
        let m : (scan (longer ++ (after ++ more))).1 ≡ (scan (front ++ (rest ++ more))).1 = ap (λ (t : Text). (scan t).1) (same_text longer after e) in
        omega (arith, n, m, first_is.len);
  }

-- ---- lexemes that are not bad

pub record IsGood (w : LexemeKind) (other : Option Bad) : Type 0 where
  pub here : is_bad w ≡ false
  pub more : other ≡ None

is_good : (w : LexemeKind) (start : ℕ) (other : Option Bad) → or_bad w start other ≡ None → IsGood w other
is_good (what.Read k) start other e = record { here = refl; more = e }
is_good what.Skipped start other e = record { here = refl; more = e }
is_good (what.Bad s) start other e = absurd (cc e)

good_more : (w : LexemeKind) (start : ℕ) (other : Option Bad) → is_bad w ≡ false → other ≡ None → or_bad w start other ≡ None
good_more (what.Read k) start other h e = e
good_more what.Skipped start other h e = e
good_more (what.Bad s) start other h e = absurd (cc h)

good_after : (xs ys : List Lexeme) → first_bad (xs ++ ys) ≡ None → first_bad ys ≡ None
good_after [] ys e = e
good_after (x ∷ xs) ys e = good_after xs ys (is_good x.what x.start (first_bad (xs ++ ys)) e).more

good_before : (xs ys : List Lexeme) → first_bad (xs ++ ys) ≡ None → first_bad xs ≡ None
good_before [] ys e = refl
good_before (x ∷ xs) ys e =
    let g = is_good x.what x.start (first_bad (xs ++ ys)) e in
    good_more x.what x.start (first_bad xs) g.here (good_before xs ys g.more)

-- ---- the first lexemes of a text, and those behind them

-- no lexeme is one of two points
no_half : (at : ℕ) (xs ys : List Lexeme) (after : Text) → Stand at (xs ++ ys) (46 ∷ 46 ∷ after) → Stand at xs (46 ∷ []) → ⊥
no_half at [] ys after s e = absurd (cc e)
no_half at (x ∷ xs) ys after (front, rest, is, start, end, l, more) (front', rest', is', start', end', l', more') =
    let f : IsFirst x.what front rest = is_first l (cut_of (front ++ rest) (omega (arith, some_front l.stands, length-append front rest))) in
    let two : length front ≡ 2 = f.len ∙ ap (λ (t : Text). (scan t).1) (sym is) ∙ two_points after in
    let one : length front' + length rest' ≡ 1 = sym (ap (λ (t : Text). length t) is' ∙ length-append front' rest') in
    omega (arith, two, one, end, end')

pub record Front (at : ℕ) (xs : List Lexeme) (text : Text) : Type 0 where
  pub front : Text
  pub rest : Text
  pub is : text ≡ front ++ rest
  pub stands : Stand at xs front

front_of : (at : ℕ) (xs ys : List Lexeme) (text : Text) → Stand at (xs ++ ys) text → first_bad xs ≡ None → Front at xs text
front_of at [] ys text s good = record { front = []; rest = text; is = refl; stands = refl }
front_of at (x ∷ xs) ys text (front, rest, is, start, end, l, more) good =
    let g = is_good x.what x.start (first_bad xs) good in
    with_first g.here (front_of x.end xs ys rest more g.more)
  where
    with_first : is_bad x.what ≡ false → Front x.end xs rest → Front at (x ∷ xs) text
    with_first good f =
        let apart : SplitsPoints f.front f.rest = λ after one two.
        let whole : rest ≡ 46 ∷ 46 ∷ after = f.is ∙ ap (λ (t : Text). t ++ f.rest) one ∙ ap (λ (t : Text). 46 ∷ t) two in
        no_half x.end xs ys after (subst (λ (t : Text). Stand x.end (xs ++ ys) t) whole more) (subst (λ (t : Text). Stand x.end xs t) one f.stands) in
        let l' : Longest x.what front (f.front ++ f.rest) = subst (λ (t : Text). Longest x.what front t) f.is l in
        record {
          front = front ++ f.front;
          rest = f.rest;
          is = is ∙ ap (λ (t : Text). front ++ t) f.is ∙ sym (append_assoc front f.front f.rest);
          stands = (front, f.front, refl, start, end, longest_before front f.front f.rest l' good apart, f.stands);
        }

pub record Behind (at : ℕ) (ys : List Lexeme) (text : Text) : Type 0 where
  pub front : Text
  pub rest : Text
  pub place : ℕ
  pub is : text ≡ front ++ rest
  pub place_is : place ≡ at + length front
  pub stands : Stand place ys rest

behind : (at : ℕ) (xs ys : List Lexeme) (text : Text) → Stand at (xs ++ ys) text → Behind at ys text
behind at [] ys text s = record { front = []; rest = text; place = at; is = refl; place_is = omega arith; stands = s }
behind at (x ∷ xs) ys text (front, rest, is, start, end, l, more) =
    let b = behind x.end xs ys rest more in
    record {
      front = front ++ b.front;
      rest = b.rest;
      place = b.place;
      is = is ∙ ap (λ (t : Text). front ++ t) b.is ∙ sym (append_assoc front b.front b.rest);
      place_is = omega (arith, b.place_is, end, length-append front b.front);
      stands = b.stands;
    }

-- the place behind the last lexeme, or else this one
abbrev end_from : ℕ → List Lexeme → ℕ
end_from at [] = at
end_from at (x ∷ xs) = end_from x.end xs

stand_end : (at : ℕ) (xs : List Lexeme) (text : Text) → Stand at xs text → at + length text ≡ end_from at xs
stand_end at [] text s = omega (arith, ap (λ (t : Text). length t) s)
stand_end at (x ∷ xs) text (front, rest, is, start, end, l, more) =
    omega (arith, stand_end x.end xs rest more, end, ap (λ (t : Text). length t) is, length-append front rest)

-- ---- with places counted from another byte

abbrev moved_lexeme : ℕ → Lexeme → Lexeme
moved_lexeme bytes x = record { what = x.what; start = x.start - bytes; end = x.end - bytes }

stand_moved : (bytes at : ℕ) (xs : List Lexeme) (text : Text) → bytes ≤ at → Stand at xs text → Stand (at - bytes) (map (moved_lexeme bytes) xs) text
stand_moved bytes at [] text h s = s
stand_moved bytes at (x ∷ xs) text h (front, rest, is, start, end, l, more) =
    let n : x.end - bytes ≡ (at - bytes) + length front = omega (arith, end, h) in
    (front, rest, is, ap (λ (k : ℕ). k - bytes) start, n, l, stand_moved bytes x.end xs rest (omega (arith, end, h)) more)

token_moved : (bytes : ℕ) (w : LexemeKind) (start end : ℕ) (ts : List Token) → with_token w (start - bytes) (end - bytes) (map (moved bytes) ts) ≡ map (moved bytes) (with_token w start end ts)
token_moved bytes (what.Read k) start end ts = refl
token_moved bytes what.Skipped start end ts = refl
token_moved bytes (what.Bad s) start end ts = refl

tokens_moved : (bytes : ℕ) (xs : List Lexeme) → tokens_of (map (moved_lexeme bytes) xs) ≡ map (moved bytes) (tokens_of xs)
tokens_moved bytes [] = refl
tokens_moved bytes (x ∷ xs) = ap (λ ts. with_token x.what (x.start - bytes) (x.end - bytes) ts) (tokens_moved bytes xs) ∙ token_moved bytes x.what x.start x.end (tokens_of xs)

good_moved : (bytes : ℕ) (xs : List Lexeme) → first_bad xs ≡ None → first_bad (map (moved_lexeme bytes) xs) ≡ None
good_moved bytes [] e = refl
good_moved bytes (x ∷ xs) e =
    let g = is_good x.what x.start (first_bad xs) e in
    good_more x.what (x.start - bytes) (first_bad (map (moved_lexeme bytes) xs)) g.here (good_moved bytes xs g.more)

-- ---- the lexemes of some of the tokens

-- the lexeme of a token among others
pub record Split (xs : List Lexeme) (us : List Token) (t : Token) (vs : List Token) : Type 0 where
  pub before : List Lexeme
  pub x : Lexeme
  pub after : List Lexeme
  pub is : xs ≡ before ++ x ∷ after
  pub token : with_token x.what x.start x.end [] ≡ t ∷ []
  pub start : x.start ≡ t.start
  pub end : x.end ≡ t.end
  pub tokens_before : tokens_of before ≡ us
  pub tokens_after : tokens_of after ≡ vs

split : (xs : List Lexeme) (us : List Token) (t : Token) (vs : List Token) → tokens_of xs ≡ us ++ (t ∷ vs) → Split xs us t vs
split [] [] t vs e = absurd (cc e)
split [] (u ∷ us) t vs e = absurd (cc e)
split (x ∷ xs) us t vs e = by_kind x.what refl us e (λ us' e'. split xs us' t vs e')
  where
    passed : (w : LexemeKind) → x.what ≡ w → ((ts : List Token) → with_token w x.start x.end ts ≡ ts) → (us : List Token) → Split xs us t vs → Split (x ∷ xs) us t vs
    passed w k none us s = record {
      before = x ∷ s.before;
      x = s.x;
      after = s.after;
      is = ap (λ ys. x ∷ ys) s.is;
      token = s.token;
      start = s.start;
      end = s.end;
      tokens_before = ap (λ v. with_token v x.start x.end (tokens_of s.before)) k ∙ none (tokens_of s.before) ∙ s.tokens_before;
      tokens_after = s.tokens_after;
    }

    by_token : (k : TokenKind) → x.what ≡ what.Read k → (us : List Token) → record { kind = k; start = x.start; end = x.end } ∷ tokens_of xs ≡ us ++ (t ∷ vs) → ((us' : List Token) → tokens_of xs ≡ us' ++ (t ∷ vs) → Split xs us' t vs) → Split (x ∷ xs) us t vs
    by_token k is [] e more =
        let one : record { kind = k; start = x.start; end = x.end } ≡ t = cc e in
        let others : tokens_of xs ≡ vs = cc e in
        record {
          before = [];
          x = x;
          after = xs;
          is = refl;
          token = ap (λ v. with_token v x.start x.end []) is ∙ ap (λ u. u ∷ []) one;
          start = ap (λ (u : Token). u.start) one;
          end = ap (λ (u : Token). u.end) one;
          tokens_before = refl;
          tokens_after = others;
        }
    by_token k is (u ∷ us) e more =
        let one : record { kind = k; start = x.start; end = x.end } ≡ u = cc e in
        let others : tokens_of xs ≡ us ++ (t ∷ vs) = cc e in
        let s = more us others in
        record {
          before = x ∷ s.before;
          x = s.x;
          after = s.after;
          is = ap (λ ys. x ∷ ys) s.is;
          token = s.token;
          start = s.start;
          end = s.end;
          tokens_before = ap (λ v. with_token v x.start x.end (tokens_of s.before)) is ∙ ap (λ y. y ∷ tokens_of s.before) one ∙ ap (λ ys. u ∷ ys) s.tokens_before;
          tokens_after = s.tokens_after;
        }

    by_kind : (w : LexemeKind) → x.what ≡ w → (us : List Token) → with_token x.what x.start x.end (tokens_of xs) ≡ us ++ (t ∷ vs) → ((us' : List Token) → tokens_of xs ≡ us' ++ (t ∷ vs) → Split xs us' t vs) → Split (x ∷ xs) us t vs
    by_kind (what.Read k) is us e more = by_token k is us (sym (ap (λ v. with_token v x.start x.end (tokens_of xs)) is) ∙ e) more
    by_kind what.Skipped is us e more = passed what.Skipped is (λ ts. refl) us (more us (sym (ap (λ v. with_token v x.start x.end (tokens_of xs)) is) ∙ e))
    by_kind (what.Bad s) is us e more = passed (what.Bad s) is (λ ts. refl) us (more us (sym (ap (λ v. with_token v x.start x.end (tokens_of xs)) is) ∙ e))

with_all : (w : LexemeKind) (start end : ℕ) (ts : List Token) → with_token w start end ts ≡ with_token w start end [] ++ ts
with_all (what.Read k) start end ts = refl
with_all what.Skipped start end ts = refl
with_all (what.Bad s) start end ts = refl

tokens_of-append : (xs ys : List Lexeme) → tokens_of (xs ++ ys) ≡ tokens_of xs ++ tokens_of ys
tokens_of-append [] ys = refl
tokens_of-append (x ∷ xs) ys =
    ap (λ ts. with_token x.what x.start x.end ts) (tokens_of-append xs ys) ∙ with_all x.what x.start x.end (tokens_of xs ++ tokens_of ys)
    ∙ sym (append_assoc (with_token x.what x.start x.end []) (tokens_of xs) (tokens_of ys))
    ∙ ap (λ ts. ts ++ tokens_of ys) (sym (with_all x.what x.start x.end (tokens_of xs)))

end_from-append : (at : ℕ) (xs : List Lexeme) (x : Lexeme) (ys : List Lexeme) → end_from at (xs ++ x ∷ ys) ≡ end_from x.end ys
end_from-append at [] x ys = refl
end_from-append at (y ∷ xs) x ys = end_from-append y.end xs x ys

-- the lexemes up to the last of some tokens
pub record Taken (xs : List Lexeme) (at : ℕ) (ts : List Token) : Type 0 where
  pub these : List Lexeme
  pub others : List Lexeme
  pub is : xs ≡ these ++ others
  pub tokens : tokens_of these ≡ ts
  pub ends : end_from at these ≡ end_of at ts

taken : (ts others : List Token) (xs : List Lexeme) (at : ℕ) → tokens_of xs ≡ ts ++ others → Taken xs at ts
taken [] others xs at e = record { these = []; others = xs; is = refl; tokens = refl; ends = refl }
taken (t ∷ ts) others xs at e =
    let s = split xs [] t (ts ++ others) e in
    let more = taken ts others s.after t.end s.tokens_after in
    record {
      these = s.before ++ s.x ∷ more.these;
      others = more.others;
      is = s.is ∙ ap (λ ys. s.before ++ s.x ∷ ys) more.is ∙ sym (append_assoc s.before (s.x ∷ more.these) more.others);
      tokens = tokens_of-append s.before (s.x ∷ more.these) ∙ ap (λ us. us ++ tokens_of (s.x ∷ more.these)) s.tokens_before ∙ with_all s.x.what s.x.start s.x.end (tokens_of more.these) ∙ ap (λ us. us ++ tokens_of more.these) s.token ∙ ap (λ us. t ∷ us) more.tokens;
      ends = end_from-append at s.before s.x more.these ∙ ap (λ (k : ℕ). end_from k more.these) s.end ∙ more.ends;
    }

-- ---- the slice

start_of : (at : ℕ) (x : Lexeme) (xs : List Lexeme) (text : Text) → Stand at (x ∷ xs) text → x.start ≡ at
start_of at x xs text (front, rest, is, start, end, l, more) = start

-- the slice has these tokens, and is as long as their places say
pub record Alike (text : Text) (t : Token) (ts : List Token) : Type 0 where
  pub lexed : Lexemes (by_themselves (t ∷ ts)) (slice_of text (t ∷ ts))
  pub long : length (slice_of text (t ∷ ts)) ≡ end_of t.end ts - t.start

slice_lexemes : (text : Text) (from : ℕ) (xs ys : List Lexeme) (before : List Token) (t : Token) (ts after : List Token) → Stand from (xs ++ ys) (drop from text) → first_bad xs ≡ None → tokens_of xs ≡ before ++ (t ∷ (ts ++ after)) → Alike text t ts
slice_lexemes text from xs ys before t ts after s good e =
    let at_first = split xs before t (ts ++ after) e in
    let x : Lexeme = at_first.x in
    let run = taken ts after at_first.after t.end at_first.tokens_after in
    let these : List Lexeme = x ∷ run.these in
    let xs_are : xs ≡ at_first.before ++ (these ++ run.others) = at_first.is ∙ ap (λ zs. at_first.before ++ x ∷ zs) run.is in
    let all_are : xs ++ ys ≡ at_first.before ++ (these ++ (run.others ++ ys)) = ap (λ zs. zs ++ ys) xs_are ∙ append_assoc at_first.before (these ++ run.others) ys ∙ ap (λ zs. at_first.before ++ zs) (append_assoc these run.others ys) in
    let b = behind from at_first.before (these ++ (run.others ++ ys)) (drop from text) (subst (λ (zs : List Lexeme). Stand from zs (drop from text)) all_are s) in
    let these_good : first_bad these ≡ None = good_before these run.others (good_after at_first.before (these ++ run.others) (ap (λ zs. first_bad zs) (sym xs_are) ∙ good)) in
    let f = front_of b.place these (run.others ++ ys) b.rest b.stands these_good in
    let place : b.place ≡ t.start = sym (start_of b.place x run.these f.front f.stands) ∙ at_first.start in
    let ends : end_of t.end ts ≡ b.place + length f.front = sym run.ends ∙ ap (λ (k : ℕ). end_from k run.these) (sym at_first.end) ∙ sym (stand_end b.place these f.front f.stands) in
    let dropped : drop t.start text ≡ f.front ++ f.rest = ap (λ (k : ℕ). drop k text) (sym place ∙ b.place_is) ∙ sym (drop-drop (length b.front) from text) ∙ ap (λ (u : Text). drop (length b.front) u) b.is ∙ drop-append_seam b.front b.rest ∙ f.is in
    let long : end_of t.end ts - t.start ≡ length f.front = omega (arith, ends, place) in
    let slice : slice_of text (t ∷ ts) ≡ f.front = ap (λ (k : ℕ). take k (drop t.start text)) long ∙ ap (λ (u : Text). take (length f.front) u) dropped ∙ take-append_seam f.front f.rest in
    let zero : b.place - t.start ≡ 0 = omega (arith, place) in
    let stands : Stand 0 (map (moved_lexeme t.start) these) f.front = subst (λ (k : ℕ). Stand k (map (moved_lexeme t.start) these) f.front) zero (stand_moved t.start b.place these f.front (omega (arith, place)) f.stands) in
    let tokens : tokens_of these ≡ t ∷ ts = with_all x.what x.start x.end (tokens_of run.these) ∙ ap (λ us. us ++ tokens_of run.these) at_first.token ∙ ap (λ us. t ∷ us) run.tokens in
    record {
      lexed = subst (λ (u : Text). Lexemes (by_themselves (t ∷ ts)) u) (sym slice) (map (moved_lexeme t.start) these, stands, good_moved t.start these these_good, tokens_moved t.start these ∙ ap (λ us. map (moved t.start) us) tokens);
      long = ap (λ (u : Text). length u) slice ∙ sym long;
    }

-- ---- a command's tokens

-- the lexemes before the first `;` are the first ones
pub record Before (all : List Lexeme) : Type 0 where
  pub others : List Lexeme
  pub is : all ≡ before_semicolon all ++ others

before_all : (all : List Lexeme) → Before all
before_all [] = record { others = []; is = refl }
before_all (x ∷ xs) = let b = go (is_semicolon x.what) (before_all xs) in record { others = b.0; is = b.1 }
  where
    go : (c : Bool) → Before xs → (ys : List Lexeme) × (x ∷ xs ≡ cond c [] (x ∷ before_semicolon xs) ++ ys)
    go true b = (x ∷ xs, refl)
    go false b = (b.others, ap (λ ys. x ∷ ys) b.is)

some_piece : (c : Bool) (found p : Piece) → cond c None (Some found) ≡ Some p → found ≡ p
some_piece true found p e = absurd (cc e)
some_piece false found p e = cc e

good_tokens : (o : Option Bad) (ts us : List Token) → outcome_by o ts ≡ Ok us → (o ≡ None) × (ts ≡ us)
good_tokens None ts us e = let same : ts ≡ us = cc e in (refl, same)
good_tokens (Some b) ts us e = absurd (cc e)

slice_alike : (text : Text) (from : ℕ) (p : Piece) (before : List Token) (t : Token) (ts after : List Token) → IsNext text from (Some p) → p.tokens ≡ Ok (before ++ (t ∷ (ts ++ after))) → Alike text t ts
slice_alike text from p before t ts after (all, s, next) is =
    let b = before_all all in
    let first : List Lexeme = before_semicolon all in
    let same : piece_of first from (command_end (length text) all) ≡ p = some_piece (all_skipped all) _ p next in
    let g = good_tokens (first_bad first) (tokens_of first) (before ++ (t ∷ (ts ++ after))) (ap (λ (p : Piece). p.tokens) same ∙ is) in
    slice_lexemes text from first b.others before t ts after (subst (λ (zs : List Lexeme). Stand from zs (drop from text)) b.is s) g.0 g.1

pub slices_alike : (text : Text) (from : ℕ) (p : Piece) (before these after : List Token) → IsNext text from (Some p) → p.tokens ≡ Ok (before ++ (these ++ after)) → Lexemes (by_themselves these) (slice_of text these)
slices_alike text from p before [] after next is = ([], refl, refl, refl)
slices_alike text from p before (t ∷ ts) after next is = (slice_alike text from p before t ts after next is).lexed

-- ---- the slice by itself

end_of-moved : (bytes at : ℕ) (ts : List Token) → end_of (at - bytes) (map (moved bytes) ts) ≡ end_of at ts - bytes
end_of-moved bytes at [] = refl
end_of-moved bytes at (t ∷ ts) = end_of-moved bytes t.end ts

take_all : (n : ℕ) (t : Text) → length t ≡ n → take n t ≡ t
take_all n t e = ap (λ (k : ℕ). take k t) (sym e) ∙ ap (λ (u : Text). take (length t) u) (sym (append-nil t)) ∙ take-append_seam t []

pub slices_whole : (text : Text) (from : ℕ) (p : Piece) (before these after : List Token) → IsNext text from (Some p) → p.tokens ≡ Ok (before ++ (these ++ after)) → slice_of (slice_of text these) (by_themselves these) ≡ slice_of text these
slices_whole text from p before [] after next is = refl
slices_whole text from p before (t ∷ ts) after next is =
    let a = slice_alike text from p before t ts after next is in
    let slice : Text = slice_of text (t ∷ ts) in
    let zero : t.start - t.start ≡ 0 = omega arith in
    let long : end_of (t.end - t.start) (map (moved t.start) ts) - (t.start - t.start) ≡ end_of t.end ts - t.start = omega (arith, end_of-moved t.start t.end ts) in
    ap (λ (k : ℕ). take (end_of (t.end - t.start) (map (moved t.start) ts) - (t.start - t.start)) (drop k slice)) zero ∙ ap (λ (k : ℕ). take k slice) long ∙ take_all (end_of t.end ts - t.start) slice a.long
