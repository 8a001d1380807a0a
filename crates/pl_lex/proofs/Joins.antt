-- The commands of a text are what cutting gives.
use Rattle.std.proofs.Common.{◌≡◌, ℕ, ◌+◌, ◌≤◌, min, Bool, true, false, cond, not, ◌&&◌, List, [], ◌∷◌, ◌++◌, length, drop, Some, None, refl, sym, ap, ◌∙◌, arith, subst, length-append, drop-drop, length-drop, append_assoc, append-nil}
use Rattle.std.proofs.Math.Seq.{drop-append_seam}
use Rattle.std.proofs.lemmas.List.{drop_all}
use Rattle.pl_lex.specs.Characters.{Text}
use Rattle.pl_lex.specs.Spellings.{spelled}
use Rattle.pl_lex.specs.Rows as row
use Rattle.pl_lex.specs.Rows.{Row}
use Rattle.pl_lex.specs.declared.token.LexemeKind.{LexemeKind}
use Rattle.pl_lex.specs.declared.token.LexemeKind.TheVariants as what
use Rattle.pl_lex.specs.declared.token.TokenKind.TheVariants as kind
use Rattle.pl_lex.specs.declared.sign.Sign.{Sign}
use Rattle.pl_lex.specs.declared.sign.Sign.TheVariants as sign
use Rattle.pl_lex.specs.declared.token.Piece.{Piece}
use Rattle.pl_lex.specs.Lexemes.{Lexeme, Stand, is_semicolon, is_skipped, all_skipped, piece_of, pieces_from, Commands, before_semicolon, command_end, next_command, IsNext, Cuts}
use Rattle.pl_lex.proofs.Tools.{and_left, and_right, and-true, cond_then, cond_else}

-- a lexeme that is a semicolon is spelled as one
as_semicolon : {w : LexemeKind} {front rest : Text} → Row w front rest → w ≡ what.Read (kind.Sign sign.Semicolon) → front ≡ spelled sign.Semicolon
as_semicolon {w} {front} {rest} (row.blank b h e k) e0 = absurd (cc (k, e0))
as_semicolon {w} {front} {rest} (row.line_comment line h e k) e0 = absurd (cc (k, e0))
as_semicolon {w} {front} {rest} (row.comment text h e k) e0 = absurd (cc (k, e0))
as_semicolon {w} {front} {rest} (row.keyword word h l is k) e0 = absurd (cc (k, e0))
as_semicolon {w} {front} {rest} (row.word h l none k) e0 = absurd (cc (k, e0))
as_semicolon {w} {front} {rest} (row.quoted_name name h l e k) e0 = absurd (cc (k, e0))
as_semicolon {w} {front} {rest} (row.number_token h l k) e0 = absurd (cc (k, e0))
as_semicolon {w} {front} {rest} (row.text_token text e k) e0 = absurd (cc (k, e0))
as_semicolon {w} {front} {rest} (row.escape_text c ps h all good e k) e0 = absurd (cc (k, e0))
as_semicolon {w} {front} {rest} (row.dollar_text tag text h l e k) e0 = absurd (cc (k, e0))
as_semicolon {w} {front} {rest} (row.parameter digits h l g e k) e0 = absurd (cc (k, e0))
as_semicolon {w} {front} {rest} (row.sign_token s e k) e0 = let same : s ≡ sign.Semicolon = cc (k, e0) in e ∙ ap (λ (x : Sign). spelled x) same
as_semicolon {w} {front} {rest} (row.other_not_equal e k) e0 = absurd (cc (k, e0))
as_semicolon {w} {front} {rest} (row.endless_text text e n k) e0 = absurd (cc (k, e0))
as_semicolon {w} {front} {rest} (row.endless_name name e n k) e0 = absurd (cc (k, e0))
as_semicolon {w} {front} {rest} (row.endless_escape_text c ps last h all l e n k) e0 = absurd (cc (k, e0))
as_semicolon {w} {front} {rest} (row.endless_dollar tag text h l e n k) e0 = absurd (cc (k, e0))
as_semicolon {w} {front} {rest} (row.endless_comment text o h e n k) e0 = absurd (cc (k, e0))
as_semicolon {w} {front} {rest} (row.long_word h l k) e0 = absurd (cc (k, e0))
as_semicolon {w} {front} {rest} (row.long_name name l e k) e0 = absurd (cc (k, e0))
as_semicolon {w} {front} {rest} (row.empty_name e k) e0 = absurd (cc (k, e0))
as_semicolon {w} {front} {rest} (row.refused_escape c ps h all bad e k) e0 = absurd (cc (k, e0))
as_semicolon {w} {front} {rest} (row.spoiled_number digits spoiler h l e k) e0 = absurd (cc (k, e0))
as_semicolon {w} {front} {rest} (row.point_number digits more h l other e k) e0 = absurd (cc (k, e0))
as_semicolon {w} {front} {rest} (row.point_first digits h e k) e0 = absurd (cc (k, e0))
as_semicolon {w} {front} {rest} (row.great_number h l k) e0 = absurd (cc (k, e0))
as_semicolon {w} {front} {rest} (row.bad_parameter digits h l e k) e0 = absurd (cc (k, e0))
as_semicolon {w} {front} {rest} (row.stray b h e k) e0 = absurd (cc (k, e0))

is_sign : (w : LexemeKind) → is_semicolon w ≡ true → w ≡ what.Read (kind.Sign sign.Semicolon)
is_sign (what.Read (kind.Sign sign.Semicolon)) e = refl
is_sign _ e = absurd (cc)

drop_on : (text front rest : Text) (at : ℕ) → at ≤ length text → drop at text ≡ front ++ rest → drop (at + length front) text ≡ rest
drop_on text front rest at h e = sym (drop-drop (length front) at text) ∙ ap (λ (t : Text). drop (length front) t) e ∙ drop-append_seam front rest

-- behind each `;` the lexemes go on as if the text began there, and a `;` is one byte long
pub record Behind (text : Text) (x : Lexeme) (xs : List Lexeme) : Type 0 where
  pub one_byte : x.end ≡ x.start + 1
  pub within : x.end ≤ length text
  pub goes_on : Stand x.end xs (drop x.end text)

-- what a `;` in the midst of lexemes has behind it
behind : (text : Text) (before : List Lexeme) (x : Lexeme) (xs : List Lexeme) (at : ℕ) → at ≤ length text → Stand at (before ++ x ∷ xs) (drop at text) → is_semicolon x.what ≡ true → Behind text x xs
behind text [] x xs at h (front, rest, is, start, end, l, more) semi =
    let e : drop x.end text ≡ rest = ap (λ k. drop k text) end ∙ drop_on text front rest at h is in
    let f : front ≡ spelled sign.Semicolon = as_semicolon l.stands (is_sign x.what semi) in
    record {
      one_byte = end ∙ omega (arith, start, ap (λ (t : Text). length t) f);
      within = omega (arith, length-drop at text, ap (λ (t : Text). length t) is, length-append front rest);
      goes_on = subst (λ (t : Text). Stand x.end xs t) (sym e) more;
    }
behind text (b ∷ before) x xs at h (front, rest, is, start, end, l, more) semi =
    let e : drop b.end text ≡ rest = ap (λ k. drop k text) end ∙ drop_on text front rest at h is in
    let within : b.end ≤ length text = omega (arith, length-drop at text, ap (λ (t : Text). length t) is, length-append front rest) in
    behind text before x xs b.end within (subst (λ (t : Text). Stand b.end (before ++ x ∷ xs) t) (sym e) more) semi

-- ---- lexemes before a `;`

abbrev has_none : List Lexeme → Bool
has_none [] = true
has_none (x ∷ xs) = not (is_semicolon x.what) && has_none xs

not_true : (c : Bool) → not c ≡ true → c ≡ false
not_true true h = absurd (cc)
not_true false h = refl

no_head : (x : Lexeme) (xs : List Lexeme) → has_none (x ∷ xs) ≡ true → is_semicolon x.what ≡ false
no_head x xs h = not_true (is_semicolon x.what) (and_left (not (is_semicolon x.what)) _ h)

no_tail : (x : Lexeme) (xs : List Lexeme) → has_none (x ∷ xs) ≡ true → has_none xs ≡ true
no_tail x xs h = and_right (not (is_semicolon x.what)) _ h

has_none-snoc : (xs : List Lexeme) (x : Lexeme) → has_none xs ≡ true → is_semicolon x.what ≡ false → has_none (xs ++ x ∷ []) ≡ true
has_none-snoc [] x h n = rw n refl
has_none-snoc (y ∷ ys) x h n = and-true _ _ (and_left (not (is_semicolon y.what)) _ h) (has_none-snoc ys x (no_tail y ys h) n)

module _ (x : Lexeme) (xs : List Lexeme) (semi : is_semicolon x.what ≡ true) where
  before_is : (before : List Lexeme) → has_none before ≡ true → before_semicolon (before ++ x ∷ xs) ≡ before
  before_is [] h = cond_then (is_semicolon x.what) _ _ semi
  before_is (b ∷ bs) h = cond_else (is_semicolon b.what) _ _ (no_head b bs h) ∙ ap (λ (ys : List Lexeme). b ∷ ys) (before_is bs (no_tail b bs h))

  end_is : (before : List Lexeme) (end : ℕ) → has_none before ≡ true → command_end end (before ++ x ∷ xs) ≡ x.start
  end_is [] end h = cond_then (is_semicolon x.what) _ _ semi
  end_is (b ∷ bs) end h = cond_else (is_semicolon b.what) _ _ (no_head b bs h) ∙ end_is bs end (no_tail b bs h)

  some_left : (before : List Lexeme) → all_skipped (before ++ x ∷ xs) ≡ false
  some_left [] = ap (λ c. c && all_skipped xs) (unskipped x.what semi)
    where
      unskipped : (w : LexemeKind) → is_semicolon w ≡ true → is_skipped w ≡ false
      unskipped (what.Read k) e = refl
      unskipped what.Skipped e = absurd (cc)
      unskipped (what.Bad s) e = refl
  some_left (b ∷ bs) = and_false (is_skipped b.what) _ (some_left bs)
    where
      and_false : (c d : Bool) → d ≡ false → (c && d) ≡ false
      and_false true d h = h
      and_false false d h = refl

  next_is : (before : List Lexeme) (from end : ℕ) → has_none before ≡ true → next_command from end (before ++ x ∷ xs) ≡ Some (piece_of before from x.start)
  next_is before from end h =
      cond_else (all_skipped (before ++ x ∷ xs)) _ _ (some_left before)
      ∙ ap (λ (ys : List Lexeme). Some (piece_of ys from (command_end end (before ++ x ∷ xs)))) (before_is before h)
      ∙ ap (λ (n : ℕ). Some (piece_of before from n)) (end_is before end h)

all_before : (xs : List Lexeme) → has_none xs ≡ true → before_semicolon xs ≡ xs
all_before [] h = refl
all_before (x ∷ xs) h = cond_else (is_semicolon x.what) _ _ (no_head x xs h) ∙ ap (λ (ys : List Lexeme). x ∷ ys) (all_before xs (no_tail x xs h))

at_end : (xs : List Lexeme) (end : ℕ) → has_none xs ≡ true → command_end end xs ≡ end
at_end [] end h = refl
at_end (x ∷ xs) end h = cond_else (is_semicolon x.what) _ _ (no_head x xs h) ∙ at_end xs end (no_tail x xs h)

last_is : (xs : List Lexeme) (from end : ℕ) → has_none xs ≡ true → all_skipped xs ≡ false → next_command from end xs ≡ Some (piece_of xs from end)
last_is xs from end h some =
    cond_else (all_skipped xs) _ _ some
    ∙ ap (λ (ys : List Lexeme). Some (piece_of ys from (command_end end xs))) (all_before xs h)
    ∙ ap (λ (n : ℕ). Some (piece_of xs from n)) (at_end xs end h)

-- ---- the commands

-- at the end of the text nothing is left
nothing : (text : Text) → IsNext text (min (length text + 1) (length text)) None
nothing text =
    let n : min (length text + 1) (length text) ≡ length text = omega arith in
    let none : drop (length text) text ≡ [] = drop_all (length text) text (omega arith) in
    subst (λ (k : ℕ). IsNext text k None) (sym n) ([], none, refl)

last_cut : (text : Text) (before : List Lexeme) (from : ℕ) (blank : Bool) → Stand from before (drop from text) → has_none before ≡ true → all_skipped before ≡ blank → Cuts text from (cond blank [] (piece_of before from (length text) ∷ []))
last_cut text before from true s h e = (before, s, cond_then (all_skipped before) _ _ e)
last_cut text before from false s h e = ((before, s, last_is before from (length text) h e), nothing text)

semicolon_cut : (text : Text) (before : List Lexeme) (x : Lexeme) (xs : List Lexeme) (from : ℕ) (ps : List Piece) → Behind text x xs → Stand from (before ++ x ∷ xs) (drop from text) → has_none before ≡ true → is_semicolon x.what ≡ true → Cuts text x.end ps → Cuts text from (piece_of before from x.start ∷ ps)
semicolon_cut text before x xs from ps b s h semi more =
    let n : x.end ≡ min (x.start + 1) (length text) = omega (arith, b.one_byte, b.within) in
    ((before ++ x ∷ xs, s, next_is x xs semi before from (length text) h), subst (λ (k : ℕ). Cuts text k ps) n more)

by_semicolon : (text : Text) (before : List Lexeme) (x : Lexeme) (xs : List Lexeme) (from : ℕ) (c : Bool) → is_semicolon x.what ≡ c → from ≤ length text → Stand from (before ++ x ∷ xs) (drop from text) → has_none before ≡ true → (Behind text x xs → Cuts text x.end (pieces_from (length text) x.end [] xs)) → (Stand from ((before ++ x ∷ []) ++ xs) (drop from text) → has_none (before ++ x ∷ []) ≡ true → Cuts text from (pieces_from (length text) from (before ++ x ∷ []) xs)) → Cuts text from (pieces_from (length text) from before (x ∷ xs))
by_semicolon text before x xs from true e within s h f g =
    let b : Behind text x xs = behind text before x xs from within s e in
    subst (λ (ps : List Piece). Cuts text from ps) (sym (cond_then (is_semicolon x.what) _ _ e)) (semicolon_cut text before x xs from _ b s h e (f b))
by_semicolon text before x xs from false e within s h f g =
    let same : (before ++ x ∷ []) ++ xs ≡ before ++ x ∷ xs = append_assoc before (x ∷ []) xs in
    subst (λ (ps : List Piece). Cuts text from ps) (sym (cond_else (is_semicolon x.what) _ _ e)) (g (subst (λ (ys : List Lexeme). Stand from ys (drop from text)) (sym same) s) (has_none-snoc before x h e))

pub cuts : (text : Text) (xs before : List Lexeme) (from : ℕ) → from ≤ length text → Stand from (before ++ xs) (drop from text) → has_none before ≡ true → Cuts text from (pieces_from (length text) from before xs)
cuts text [] before from within s h = last_cut text before from (all_skipped before) (subst (λ (ys : List Lexeme). Stand from ys (drop from text)) (append-nil before) s) h refl
cuts text (x ∷ xs) before from within s h = by_semicolon text before x xs from (is_semicolon x.what) refl within s h (λ b. cuts text xs [] x.end b.within b.goes_on refl) (λ s' h'. cuts text xs (before ++ x ∷ []) from within s' h')

pub commands_are_cut : (text : Text) (pieces : List Piece) → Commands pieces text → Cuts text 0 pieces
commands_are_cut text pieces (all, s, is) = subst (λ (ps : List Piece). Cuts text 0 ps) is (cuts text all [] 0 (omega arith) s refl)
