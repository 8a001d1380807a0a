-- A text has one list of lexemes, and the scan computes it.
use Rattle.std.proofs.Common.{◌≡◌, ℕ, zero, suc, ◌+◌, ◌-◌, ◌≤◌, true, List, [], ◌∷◌, ◌++◌, length, take, drop, Option, Some, None, refl, sym, ap, ◌∙◌, arith, length-append, append_assoc, append-nil, subst, add-zero}
use Rattle.std.proofs.Math.Seq.{take-append_seam, drop-append_seam}
use Rattle.pl_lex.specs.Characters.{Text}
use Rattle.pl_lex.specs.Rows as row
use Rattle.pl_lex.specs.Rows.{Row}
use Rattle.pl_lex.specs.Characters.{is_word, are_digits}
use Rattle.pl_lex.specs.Spellings.{spelled}
use Rattle.pl_lex.specs.declared.sign.Sign.{Sign}
use Rattle.pl_lex.specs.declared.sign.Sign.TheVariants as sign
use Rattle.pl_lex.proofs.Marks.{some_digit}
use Rattle.pl_lex.specs.declared.token.LexemeKind.{LexemeKind}
use Rattle.pl_lex.specs.declared.token.LexemeKind.TheVariants as what
use Rattle.pl_lex.specs.declared.token.Token.{Token}
use Rattle.pl_lex.specs.declared.token.Bad.{Bad}
use Rattle.pl_lex.specs.declared.lexer.LexFail.{LexFail}
use Rattle.pl_lex.specs.declared.lexer.LexFail.TheVariants as fail
use Rattle.pl_lex.specs.Lexemes.{Longest, Lexeme, Stand, with_token, or_bad, tokens_of, first_bad, Lexemes, IsFailure}
use Rattle.pl_lex.specs.Steps.{Kept, FailsBy}
use Rattle.pl_lex.specs.Scan.{Found, scan, meaning, IsRead}
use Rattle.pl_lex.specs.Computed.{first, lexemes_from, lexemes}
use Rattle.pl_lex.proofs.Reach.{Reaches, longer, same}
use Rattle.pl_lex.proofs.Complete.{complete}
use Rattle.pl_lex.proofs.Sound.{Cut}
use Rattle.pl_lex.proofs.SoundMarks.{sound}

-- ---- the lexeme at the front

pub at_most : {what : LexemeKind} {front : Text} (f : Found) → Reaches f what front → length front ≤ f.1
at_most f (longer l) = omega arith
at_most f (same e m) = omega arith

meant : {what : LexemeKind} {front : Text} (f : Found) → Reaches f what front → length front ≡ f.1 → meaning f.0 front ≡ what
meant f (longer l) e = absurd (omega arith)
meant f (same e m) k = m

-- the scan's lexeme is the longest
longest : {t : Text} (c : Cut (scan t) t) → Longest (meaning (scan t).0 c.front) c.front c.rest
longest {t} c = record {
  stands = c.row;
  longest = λ other front after e r.
      let k : Reaches (scan (front ++ after)) other front = complete r in
      let same_text : front ++ after ≡ t = e ∙ sym c.is in
      let n : length front ≤ (scan t).1 = subst (λ (x : Text). length front ≤ (scan x).1) same_text (at_most (scan (front ++ after)) k) in
      omega (arith, c.len);
}

-- what is longest is the scan's
pub record IsFirst (what : LexemeKind) (front rest : Text) : Type 0 where
  pub len : length front ≡ (scan (front ++ rest)).1
  pub what_is : what ≡ meaning (scan (front ++ rest)).0 front

pub is_first : {what : LexemeKind} {front rest : Text} → Longest what front rest → Cut (scan (front ++ rest)) (front ++ rest) → IsFirst what front rest
is_first {what} {front} {rest} l c =
    let k : Reaches (scan (front ++ rest)) what front = complete l.stands in
    let low : length c.front ≤ length front = l.longest (meaning (scan (front ++ rest)).0 c.front) c.front c.rest (sym c.is) c.row in
    let e : length front ≡ (scan (front ++ rest)).1 = omega (arith, at_most (scan (front ++ rest)) k, c.len) in
    record { len = e; what_is = sym (meant (scan (front ++ rest)) k e) }

-- ---- the lexemes of a text

skip_left : (n at : ℕ) (t : Text) → n ≤ length t → lexemes_from n at t ≡ lexemes_from 0 (at + n) (drop n t)
unfolding lexemes_from
skip_left zero at [] h = refl
skip_left zero at (b ∷ bs) h = ap (λ k. lexemes_from 0 k (b ∷ bs)) (sym (add-zero at))
skip_left (suc n) at [] h = absurd (omega arith)
skip_left (suc n) at (b ∷ bs) h =
    let k : at + 1 + n ≡ at + suc n = omega arith in
    skip_left n (at + 1) bs (omega arith) ∙ ap (λ k. lexemes_from 0 k (drop n bs)) k

step : (n at b : ℕ) (bs : Text) → 1 ≤ n → n ≤ length (b ∷ bs) → lexemes_from (n - 1) (at + 1) bs ≡ lexemes (at + n) (drop n (b ∷ bs))
unfolding lexemes
step zero at b bs h k = absurd (omega arith)
step (suc n) at b bs h k =
    let e : suc n - 1 ≡ n = omega arith in
    let f : at + 1 + n ≡ at + suc n = omega arith in
    ap (λ m. lexemes_from m (at + 1) bs) e ∙ skip_left n (at + 1) bs (omega arith) ∙ ap (λ m. lexemes_from 0 m (drop n bs)) f

pub lexemes_nil : (at : ℕ) → lexemes at [] ≡ []
unfolding lexemes lexemes_from
lexemes_nil at = refl

pub lexemes_cons : (at : ℕ) (t : Text) → 1 ≤ (scan t).1 → (scan t).1 ≤ length t → lexemes at t ≡ first at t ∷ lexemes (at + (scan t).1) (drop (scan t).1 t)
unfolding lexemes lexemes_from
lexemes_cons at [] h k = absurd (omega arith)
lexemes_cons at (b ∷ bs) h k = ap (λ xs. first at (b ∷ bs) ∷ xs) (step (scan (b ∷ bs)).1 at b bs h k)

-- ---- they stand there, and no others do

by_front : {front spelled : Text} → front ≡ spelled → 1 ≤ length spelled → 1 ≤ length front
by_front e h = rw e h

some_word : (front : Text) → is_word front ≡ true → 1 ≤ length front
some_word [] h = absurd (cc)
some_word (b ∷ bs) h = omega arith

with_front : (xs ys : Text) → are_digits xs ≡ true → 1 ≤ length (xs ++ ys)
with_front xs ys h = omega (arith, length-append xs ys, some_digit xs h)

some_sign : (s : Sign) → 1 ≤ length (spelled s)
some_sign sign.Open = omega arith
some_sign sign.Close = omega arith
some_sign sign.Comma = omega arith
some_sign sign.Semicolon = omega arith
some_sign sign.Dot = omega arith
some_sign sign.Colon = omega arith
some_sign sign.Equal = omega arith
some_sign sign.Less = omega arith
some_sign sign.Greater = omega arith
some_sign sign.Plus = omega arith
some_sign sign.Minus = omega arith
some_sign sign.Star = omega arith
some_sign sign.Slash = omega arith
some_sign sign.Percent = omega arith
some_sign sign.DotDot = omega arith
some_sign sign.Assign = omega arith
some_sign sign.Cast = omega arith
some_sign sign.Arrow = omega arith
some_sign sign.NotEqual = omega arith
some_sign sign.LessOrEqual = omega arith
some_sign sign.GreaterOrEqual = omega arith
some_sign sign.OpenLabel = omega arith
some_sign sign.CloseLabel = omega arith
some_sign sign.Concat = omega arith

-- no lexeme is empty
pub some_front : {what : LexemeKind} {front rest : Text} → Row what front rest → 1 ≤ length front
some_front {what} {front} {rest} (row.blank b h e k) = by_front e (omega arith)
some_front {what} {front} {rest} (row.line_comment line h e k) = by_front e (omega arith)
some_front {what} {front} {rest} (row.comment text h e k) = by_front e (omega arith)
some_front {what} {front} {rest} (row.keyword word h l is k) = some_word front h
some_front {what} {front} {rest} (row.word h l none k) = some_word front h
some_front {what} {front} {rest} (row.quoted_name name h l e k) = by_front e (omega arith)
some_front {what} {front} {rest} (row.number_token h l k) = some_digit front h
some_front {what} {front} {rest} (row.text_token text e k) = by_front e (omega arith)
some_front {what} {front} {rest} (row.dollar_text tag text h l e k) = by_front e (omega arith)
some_front {what} {front} {rest} (row.parameter digits h l g e k) = by_front e (omega arith)
some_front {what} {front} {rest} (row.sign_token s e k) = by_front e (some_sign s)
some_front {what} {front} {rest} (row.other_not_equal e k) = by_front e (omega arith)
some_front {what} {front} {rest} (row.escape_text c ps h all good e k) = by_front e (omega arith)
some_front {what} {front} {rest} (row.refused_escape c ps h all bad e k) = by_front e (omega arith)
some_front {what} {front} {rest} (row.endless_escape_text c ps last h all l e n k) = by_front e (omega arith)
some_front {what} {front} {rest} (row.endless_text text e n k) = by_front e (omega arith)
some_front {what} {front} {rest} (row.endless_name name e n k) = by_front e (omega arith)
some_front {what} {front} {rest} (row.endless_dollar tag text h l e n k) = by_front e (omega arith)
some_front {what} {front} {rest} (row.endless_comment text o h e n k) = by_front e (omega arith)
some_front {what} {front} {rest} (row.long_word h l k) = some_word front h
some_front {what} {front} {rest} (row.long_name name l e k) = by_front e (omega arith)
some_front {what} {front} {rest} (row.empty_name e k) = by_front e (omega arith)
some_front {what} {front} {rest} (row.spoiled_number digits spoiler h l e k) = by_front e (with_front digits spoiler h)
some_front {what} {front} {rest} (row.point_number digits more h l other e k) = by_front e (with_front digits (46 ∷ more) h)
some_front {what} {front} {rest} (row.point_first digits h e k) = by_front e (omega arith)
some_front {what} {front} {rest} (row.great_number h l k) = some_digit front h
some_front {what} {front} {rest} (row.bad_parameter digits h l e k) = by_front e (omega arith)
some_front {what} {front} {rest} (row.stray b h e k) = by_front e (omega arith)

lexeme_is : (x : Lexeme) (w : LexemeKind) (start end : ℕ) → x.what ≡ w → x.start ≡ start → x.end ≡ end → x ≡ record { what = w; start = start; end = end }
lexeme_is x w start end p q r =
    let by_what : LexemeKind → Lexeme = λ w. record { what = w; start = x.start; end = x.end } in
    let by_start : ℕ → Lexeme = λ s. record { what = w; start = s; end = x.end } in
    let by_end : ℕ → Lexeme = λ e. record { what = w; start = start; end = e } in
    ap by_what p ∙ ap by_start q ∙ ap by_end r

pub stand : (fuel at : ℕ) (t : Text) → length t ≤ fuel → Stand at (lexemes at t) t
stand fuel at [] h = rw (lexemes_nil at) refl
stand zero at (b ∷ bs) h = absurd (omega arith)
stand (suc fuel) at (b ∷ bs) h =
    let t : Text = b ∷ bs in
    let c = sound b bs in
    let pos : 1 ≤ length c.front = some_front c.row in
    let n : length c.front + length c.rest ≡ length t = sym (ap (λ (x : Text). length x) c.is ∙ length-append c.front c.rest) in
    let front : take (scan t).1 t ≡ c.front = ap (λ k. take k t) (sym c.len) ∙ ap (λ (x : Text). take (length c.front) x) c.is ∙ take-append_seam c.front c.rest in
    let rest : drop (scan t).1 t ≡ c.rest = ap (λ k. drop k t) (sym c.len) ∙ ap (λ (x : Text). drop (length c.front) x) c.is ∙ drop-append_seam c.front c.rest in
    let e : lexemes at t ≡ first at t ∷ lexemes (at + (scan t).1) c.rest = lexemes_cons at t (omega (arith, c.len)) (omega (arith, c.len)) ∙ ap (λ (x : Text). first at t ∷ lexemes (at + (scan t).1) x) rest in
    let l : Longest (meaning (scan t).0 (take (scan t).1 t)) c.front c.rest = subst (λ (x : Text). Longest (meaning (scan t).0 x) c.front c.rest) (sym front) (longest c) in
    subst (λ (xs : List Lexeme). Stand at xs t) (sym e) (c.front, c.rest, c.is, refl, ap (λ k. at + k) (sym c.len), l, stand fuel (at + (scan t).1) c.rest (omega arith))

pub cut_of : (t : Text) → 1 ≤ length t → Cut (scan t) t
cut_of [] h = absurd (omega arith)
cut_of (b ∷ bs) h = sound b bs

pub unique : (xs : List Lexeme) (at : ℕ) (t : Text) → Stand at xs t → xs ≡ lexemes at t
unique [] at t s = rw (s, lexemes_nil at) refl
unique (x ∷ xs) at t (front, rest, is, start, end, l, more) =
    let pos : 1 ≤ length front = some_front l.stands in
    let n : length (front ++ rest) ≡ length front + length rest = length-append front rest in
    let f : IsFirst x.what front rest = is_first l (cut_of (front ++ rest) (omega arith)) in
    let k : lexemes at (front ++ rest) ≡ first at (front ++ rest) ∷ lexemes (at + (scan (front ++ rest)).1) (drop (scan (front ++ rest)).1 (front ++ rest)) = lexemes_cons at (front ++ rest) (omega (arith, f.len)) (omega (arith, f.len)) in
    let front_is : take (scan (front ++ rest)).1 (front ++ rest) ≡ front = ap (λ k. take k (front ++ rest)) (sym f.len) ∙ take-append_seam front rest in
    let rest_is : drop (scan (front ++ rest)).1 (front ++ rest) ≡ rest = ap (λ k. drop k (front ++ rest)) (sym f.len) ∙ drop-append_seam front rest in
    let w : x.what ≡ meaning (scan (front ++ rest)).0 (take (scan (front ++ rest)).1 (front ++ rest)) = f.what_is ∙ ap (λ (t : Text). meaning (scan (front ++ rest)).0 t) (sym front_is) in
    let e : x.end ≡ at + (scan (front ++ rest)).1 = end ∙ ap (λ k. at + k) f.len in
    let head : x ≡ first at (front ++ rest) = lexeme_is x _ _ _ w start e in
    let tail : xs ≡ lexemes (at + (scan (front ++ rest)).1) (drop (scan (front ++ rest)).1 (front ++ rest)) = unique xs x.end rest more ∙ ap (λ k. lexemes k rest) e ∙ ap (λ (t : Text). lexemes (at + (scan (front ++ rest)).1) t) (sym rest_is) in
    ap (λ y. y ∷ xs) head ∙ ap (λ ys. first at (front ++ rest) ∷ ys) tail ∙ sym k ∙ ap (λ (t : Text). lexemes at t) (sym is)

-- ---- as the loops read them

pub lexemes_read : {w : LexemeKind} {n : ℕ} {t : Text} (at : ℕ) → IsRead w n t → lexemes at t ≡ record { what = w; start = at; end = at + n } ∷ lexemes (at + n) (drop n t)
lexemes_read {w} {n} {t} at r =
    let e : lexemes at t ≡ first at t ∷ lexemes (at + (scan t).1) (drop (scan t).1 t) = lexemes_cons at t (omega (arith, r.some, r.len_is)) (omega (arith, r.within, r.len_is)) in
    let w_is : meaning (scan t).0 (take (scan t).1 t) ≡ w = ap (λ k. meaning (scan t).0 (take k t)) (sym r.len_is) ∙ sym r.what_is in
    let end : at + (scan t).1 ≡ at + n = ap (λ k. at + k) (sym r.len_is) in
    let head : first at t ≡ record { what = w; start = at; end = at + n } = lexeme_is (first at t) w at (at + n) w_is refl end in
    let tail : lexemes (at + (scan t).1) (drop (scan t).1 t) ≡ lexemes (at + n) (drop n t) = ap (λ k. lexemes (at + k) (drop k t)) (sym r.len_is) in
    e ∙ ap (λ x. x ∷ lexemes (at + (scan t).1) (drop (scan t).1 t)) head ∙ ap (λ xs. record { what = w; start = at; end = at + n } ∷ xs) tail

pub with_token_all : (w : LexemeKind) (start end : ℕ) (ts : List Token) → with_token w start end ts ≡ with_token w start end [] ++ ts
with_token_all (what.Read k) start end ts = refl
with_token_all what.Skipped start end ts = refl
with_token_all (what.Bad s) start end ts = refl

pub or_bad_none : (w : LexemeKind) (start : ℕ) (o : Option Bad) → or_bad w start None ≡ None → or_bad w start o ≡ o
or_bad_none (what.Read k) start o h = refl
or_bad_none what.Skipped start o h = refl
or_bad_none (what.Bad s) start o h = absurd (cc)

pub or_bad_some : (w : LexemeKind) (start : ℕ) (o : Option Bad) (b : Bad) → or_bad w start None ≡ Some b → or_bad w start o ≡ Some b
or_bad_some (what.Read k) start o b h = absurd (cc)
or_bad_some what.Skipped start o b h = absurd (cc)
or_bad_some (what.Bad s) start o b h = h

-- ---- the loop of `lex`

pub lex_step : {w : LexemeKind} {n : ℕ} {t : Text} {old new : List Token} (at : ℕ) → IsRead w n t → Kept w at (at + n) old new → new ++ tokens_of (lexemes (at + n) (drop n t)) ≡ old ++ tokens_of (lexemes at t)
lex_step {w} {n} {t} {old} {new} at r k =
    let rest : List Token = tokens_of (lexemes (at + n) (drop n t)) in
    ap (λ ts. ts ++ rest) k.tokens ∙ append_assoc old (with_token w at (at + n) []) rest ∙ ap (λ ts. old ++ ts) (sym (with_token_all w at (at + n) rest)) ∙ ap (λ xs. old ++ tokens_of xs) (sym (lexemes_read at r))

pub lex_good : {w : LexemeKind} {n : ℕ} {t : Text} (at : ℕ) → IsRead w n t → or_bad w at None ≡ None → first_bad (lexemes (at + n) (drop n t)) ≡ first_bad (lexemes at t)
lex_good {w} {n} {t} at r k = sym (or_bad_none w at (first_bad (lexemes (at + n) (drop n t))) k) ∙ ap (λ xs. first_bad xs) (sym (lexemes_read at r))

pub lex_bad : {w : LexemeKind} {n : ℕ} {t : Text} (at : ℕ) (b : Bad) → IsRead w n t → or_bad w at None ≡ Some b → first_bad (lexemes at t) ≡ Some b
lex_bad {w} {n} {t} at b r k = ap (λ xs. first_bad xs) (lexemes_read at r) ∙ or_bad_some w at (first_bad (lexemes (at + n) (drop n t))) b k

-- ---- the theorems

pub all_stand : (at : ℕ) (t : Text) → Stand at (lexemes at t) t
all_stand at t = stand (length t) at t (omega arith)

pub lexes : (tokens : List Token) (t : Text) → first_bad (lexemes 0 t) ≡ None → tokens_of (lexemes 0 t) ≡ tokens → Lexemes tokens t
lexes tokens t good e = (lexemes 0 t, all_stand 0 t, good, e)

pub lexes_only : (tokens : List Token) (t : Text) → Lexemes tokens t → (first_bad (lexemes 0 t) ≡ None) × (tokens_of (lexemes 0 t) ≡ tokens)
lexes_only tokens t (all, s, good, e) =
    let k : all ≡ lexemes 0 t = unique all 0 t s in
    (ap (λ xs. first_bad xs) (sym k) ∙ good, ap (λ xs. tokens_of xs) (sym k) ∙ e)

pub lex_fails : {w : LexemeKind} {n : ℕ} {t : Text} (at : ℕ) (text : Text) (failure : LexFail) → IsRead w n t → first_bad (lexemes at t) ≡ first_bad (lexemes 0 text) → FailsBy w at failure → IsFailure failure text
lex_fails at text (fail.Bad place state) r e h = (lexemes 0 text, all_stand 0 text, sym e ∙ lex_bad at (record { at = place; state = state }) r h)
lex_fails at text fail.Memory r e h = tt

pub lex_ends : (at : ℕ) (t text : Text) (tokens : List Token) → t ≡ [] → tokens ++ tokens_of (lexemes at t) ≡ tokens_of (lexemes 0 text) → first_bad (lexemes at t) ≡ first_bad (lexemes 0 text) → Lexemes tokens text
lex_ends at t text tokens n e k =
    let none : lexemes at t ≡ [] = ap (λ (t : Text). lexemes at t) n ∙ lexemes_nil at in
    lexes tokens text (sym k ∙ ap (λ xs. first_bad xs) none) (sym e ∙ ap (λ xs. tokens ++ tokens_of xs) none ∙ append-nil tokens)

pub lex_only : (tokens other : List Token) (text : Text) → Lexemes tokens text → Lexemes other text → other ≡ tokens
lex_only tokens other text h k = sym (lexes_only other text k).1 ∙ (lexes_only tokens text h).1

pub empty : (t : Text) → length t ≡ 0 → t ≡ []
empty [] h = refl
empty (b ∷ bs) h = absurd (omega arith)
